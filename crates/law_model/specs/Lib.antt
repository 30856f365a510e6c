pub mod ImagesStay
pub mod Sound
