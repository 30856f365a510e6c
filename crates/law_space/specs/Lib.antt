pub mod BlockInHand
