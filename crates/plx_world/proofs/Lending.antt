-- A read is answered while the device lends the block to the buffer.
use Rattle.std.proofs.Common.{◌≡◌, ℕ, List, refl, sym, subst}
use Rattle.std.specs.Prelude.{Err, Ok, OnErr, OnOk, Result}
use Rattle.std.proofs.Math.Logic.{∥∥₁_map}
use Rattle.plx_base.specs.declared.numbers.ApplianceNo.{ApplianceNo}
use Rattle.plx_disk.specs.Filled.{with_block}
use Rattle.plx_disk.specs.Lending.{IsLent}
use Rattle.plx_disk.specs.Standing.{Stays as DiskStays}
use Rattle.plx_disk.specs.declared.ask.Answer.{Answer}
use Rattle.plx_disk.specs.declared.ask.Answer.TheVariants as answer
use Rattle.plx_disk.specs.declared.disk.Disk.{Disk}
use Rattle.plx_rules.specs.World as rules
use Rattle.plx_rules.specs.World.{goes_on}
use Rattle.plx_world.specs.Answering.{AnswersRead, IsAnswered, LendsBlock}
use Rattle.plx_world.specs.Cancels.{NeverCancels}
use Rattle.plx_world.specs.Standing.{StandsOn, WorldStands}
use Rattle.plx_world.specs.declared.world.World.{World}
use Rattle.plx_world.proofs.Disked.{OnlyDisk, stands-over}

-- the device has lent a block, the world went on, and the block was given back
pub record LentWhile (old lent told new : World) (block : ℕ) (given : Answer) : Type 0 where
  pub before : OnlyDisk old lent
  pub after : OnlyDisk told new
  pub lends : LendsBlock old.disk lent.disk block given
  pub same : told.disk ≡ lent.disk
  pub back : (lender : Disk) → LendsBlock lender told.disk block given → DiskStays lender new.disk

-- once it is given back, the device stands for what it stood for before
pub back-stays : (old lent told new : Disk) (block : ℕ) (given : Answer) → LendsBlock old lent block given → told ≡ lent →
    ((lender : Disk) → LendsBlock lender told block given → DiskStays lender new) → DiskStays old new
back-stays old lent told new block given lends same back = back old (subst (λ disk. LendsBlock old disk block given) (sym same) lends)

while-stays : (old lent told new : World) (block : ℕ) (given : Answer) → LentWhile old lent told new block given → DiskStays old.disk new.disk
while-stays old lent told new block given l = back-stays old.disk lent.disk told.disk new.disk block given l.lends l.same l.back

-- the world with the device as it is while a block of it is lent
lent-stands : (old lent : World) (block : ℕ) (bytes : List ℕ) (w : rules.World) → OnlyDisk old lent → (l : IsLent old.disk lent.disk block bytes) → WorldStands old w →
    WorldStands lent (record w { surface = with_block w.surface block l.instead })
lent-stands old lent block bytes w only l h =
    stands-over old lent w (record w { surface = with_block w.surface block l.instead }) only h refl refl (λ a. refl) refl (λ a. refl) (l.stands w.surface h.surface)

-- the world went on by the answer
pub answers-lent : (old lent told new : World) (a : ApplianceNo) (block : ℕ) (given : Answer) → LentWhile old lent told new block given → IsAnswered lent told a given →
    AnswersRead old new a block
answers-lent old lent told new a block (answer.Bytes bytes) l answered = record {
  bytes = bytes;
  whole = l.lends.0;
  stored = l.lends.1.given;
  answered = record {
    leads = λ w event ask out rest h asked outs fits leads.
        let v = record w { surface = with_block w.surface block l.lends.1.instead } in
        let h' = answered.leads v event ask out rest (lent-stands old lent block bytes w l.before l.lends.1 h) asked outs fits leads in
        stands-over told new (goes_on v event a ask out (answer.Bytes bytes) rest) (goes_on w event a ask out (answer.Bytes bytes) rest) l.after h' refl refl (λ a. refl) refl (λ a. refl)
        (while-stays old lent told new block (answer.Bytes bytes) l w.surface h.surface);
  };
}
answers-lent old lent told new a block answer.Done l answered = absurd l.lends
answers-lent old lent told new a block (answer.Reading reading) l answered = absurd l.lends
answers-lent old lent told new a block (answer.Missed reading) l answered = absurd l.lends
answers-lent old lent told new a block answer.Fault l answered = absurd l.lends

-- there was no memory for its reply
pub stays-lent : (old lent told new : World) (block : ℕ) (given : Answer) → LentWhile old lent told new block given → StandsOn lent told → StandsOn old new
stays-lent old lent told new block (answer.Bytes bytes) l stays w h =
    let v = record w { surface = with_block w.surface block l.lends.1.instead } in
    stands-over told new v w l.after (stays v (lent-stands old lent block bytes w l.before l.lends.1 h)) refl refl (λ a. refl) refl (λ a. refl)
    (while-stays old lent told new block (answer.Bytes bytes) l w.surface h.surface)
stays-lent old lent told new block answer.Done l stays w h = absurd l.lends
stays-lent old lent told new block (answer.Reading reading) l stays w h = absurd l.lends
stays-lent old lent told new block (answer.Missed reading) l stays w h = absurd l.lends
stays-lent old lent told new block answer.Fault l stays w h = absurd l.lends

-- while a block is lent no write is cancelled
cancels-lends : (old new : Disk) (block : ℕ) (given : Answer) → LendsBlock old new block given → NeverCancels old → NeverCancels new
cancels-lends old new block (answer.Bytes bytes) lends never = ∥∥₁_map never (λ u. (with_block u.0 block lends.1.instead, lends.1.stands u.0 u.1, u.2))
cancels-lends old new block answer.Done lends never = absurd lends
cancels-lends old new block (answer.Reading reading) lends never = absurd lends
cancels-lends old new block (answer.Missed reading) lends never = absurd lends
cancels-lends old new block answer.Fault lends never = absurd lends

-- where it is lent, or there was no memory for the buffer
pub cancels-lent : {A E : Type 0} (result : Result A E) (old new : Disk) (block : ℕ) (given : Answer) → OnOk result (LendsBlock old new block given) →
    OnErr result (new ≡ old) → NeverCancels old → NeverCancels new
cancels-lent (Ok value) old new block given ok err never = cancels-lends old new block given ok never
cancels-lent (Err error) old new block given ok err never = subst NeverCancels (sym err) never
