-- What is held after a command's reply.
use Rattle.std.specs.Prelude.{ℕ, List, []}
use Rattle.plx_commands.specs.declared.reply.Reply.{Reply}
use Rattle.plx_commands.specs.declared.reply.Reply.TheVariants as reply
use Rattle.plx_rules.specs.Holds.{Hold, Nothing}

-- which leases are held then: after a lost lease none
abbrev pub leases_after : Reply → (ℕ → Hold) → ℕ → Hold
leases_after (reply.Lost lease until reading) leases = λ image. Nothing
leases_after other leases = leases

-- and which blocks are in hand
abbrev pub hand_after_reply : Reply → List ℕ → List ℕ
hand_after_reply (reply.Lost lease until reading) hand = []
hand_after_reply other hand = hand
