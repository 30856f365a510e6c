-- A printed trace spells one trace alone.
use Rattle.std.proofs.Common.{◌≡◌, ◌∙◌, ℕ, true, List, [], ◌∷◌, ◌++◌, map, codes, refl, ap, sym}
use Rattle.plx_base.specs.declared.lease.LeaseName.TheVariants.{Root, Image, Extent}
use Rattle.plx_base.specs.declared.lease.LeaseRecord.TheVariants.{Free, Claimed}
use Rattle.plx_commands.specs.declared.command.Command.{Command}
use Rattle.plx_commands.specs.declared.command.Command.TheVariants.{Attach}
use Rattle.plx_commands.specs.declared.entry.Entry.{Entry}
use Rattle.plx_commands.specs.declared.entry.Entry.TheVariants as entry
use Rattle.plx_commands.specs.declared.reply.Reply.{Reply}
use Rattle.plx_commands.specs.declared.reply.Reply.TheVariants.{Busy, Lost}
use Rattle.plx_words.specs.Candidates.{named_at}
use Rattle.plx_text.specs.Commands.{command_line}
use Rattle.plx_words.specs.Pieces.{AllTell, Piece, all_spelled}
use Rattle.plx_text.specs.Replies.{reply_line}
use Rattle.plx_text.specs.Once.{TraceOnce}
use Rattle.plx_words.specs.Texts.{LinesTell}
use Rattle.plx_words.proofs.Once.{heads, none-absurd}
use Rattle.plx_words.proofs.Values.{value}
use Rattle.plx_text.specs.Schedules.{world_line, world_of}
use Rattle.plx_text.specs.Traces.{end_line, entry_line, entry_in, plain_entry, trace_lines}
use Rattle.plx_words.proofs.Clean.{all_sound, clean-line}
use Rattle.plx_text.proofs.Found.{entry_in-line, world-found}
use Rattle.plx_words.proofs.SameWords.{Are-lines, Is-line, same-words}
use Rattle.plx_base.proofs.Tests.{same-some}

-- the words that are written out are clean
command-sound : (command : Command) → all_sound (command_line command) ≡ true
command-sound (Attach slot) = refl
command-sound other = refl

reply-sound : (reply : Reply) → all_sound (reply_line reply) ≡ true
reply-sound (Busy Root Free) = refl
reply-sound (Busy Root (Claimed claim until)) = refl
reply-sound (Busy (Image slot) Free) = refl
reply-sound (Busy (Image slot) (Claimed claim until)) = refl
reply-sound (Busy (Extent extent) Free) = refl
reply-sound (Busy (Extent extent) (Claimed claim until)) = refl
reply-sound (Lost Root until reading) = refl
reply-sound (Lost (Image slot) until reading) = refl
reply-sound (Lost (Extent extent) until reading) = refl
reply-sound other = refl

entry-is-line : (one : Entry) → AllTell (entry_line one) → Is-line (all_spelled (entry_line one))
entry-is-line (entry.Start appliance command) tells = clean-line (entry_line (entry.Start appliance command)) (command-sound command) tells
entry-is-line (entry.Reply appliance reply) tells = clean-line (entry_line (entry.Reply appliance reply)) (reply-sound reply) tells
entry-is-line (entry.Crash appliance) tells = clean-line (entry_line (entry.Crash appliance)) refl tells

-- the lines after the first
abbrev rest : List Entry → ℕ → ℕ → List (List Piece)
rest entries reachable allocated = map (λ one. entry_line (plain_entry one)) entries ++ end_line reachable allocated ∷ []

are-rest : (entries : List Entry) (reachable allocated : ℕ) → LinesTell (rest entries reachable allocated) → Are-lines (rest entries reachable allocated)
are-rest [] reachable allocated told = (clean-line (end_line reachable allocated) refl told.0, tt)
are-rest (one ∷ entries) reachable allocated told = (entry-is-line (plain_entry one) told.0, are-rest entries reachable allocated told.1)

count-same : (n n' : ℕ) (words words' : List (List ℕ)) (name : List ℕ) (k : ℕ) → named_at name k words ≡ n → named_at name k words' ≡ n' → words ≡ words' → n ≡ n'
count-same n n' words words' name k here there same = sym here ∙ (ap (named_at name k) same ∙ there)

end-same : (reachable reachable' allocated allocated' : ℕ) → AllTell (end_line reachable allocated) → AllTell (end_line reachable' allocated')
    → all_spelled (end_line reachable allocated) ≡ all_spelled (end_line reachable' allocated') → (reachable ≡ reachable') × (allocated ≡ allocated')
end-same reachable reachable' allocated allocated' tells tells' same = (
  count-same reachable reachable' _ _ (codes "reachable=") 1 (value reachable tells.1.0) (value reachable' tells'.1.0) same,
  count-same allocated allocated' _ _ (codes "allocated=") 2 (value allocated tells.1.1.0) (value allocated' tells'.1.1.0) same,
)

no-end : {X : Type 0} (reachable allocated : ℕ) (one : Entry) → AllTell (entry_line one) → all_spelled (end_line reachable allocated) ≡ all_spelled (entry_line one) → X
no-end reachable allocated one tells same = none-absurd one (ap entry_in same ∙ entry_in-line one (all_spelled (entry_line one)) (tells, refl))

rest-same : (entries entries' : List Entry) (reachable reachable' allocated allocated' : ℕ) → LinesTell (rest entries reachable allocated)
    → LinesTell (rest entries' reachable' allocated') → map all_spelled (rest entries reachable allocated) ≡ map all_spelled (rest entries' reachable' allocated')
    → (map plain_entry entries ≡ map plain_entry entries') × (reachable ≡ reachable') × (allocated ≡ allocated')
rest-same [] [] reachable reachable' allocated allocated' told told' same =
    let last = end-same reachable reachable' allocated allocated' told.0 told'.0 (heads _ _ [] [] same).0 in
    (refl, last.0, last.1)
rest-same [] (one ∷ entries') reachable reachable' allocated allocated' told told' same =
    no-end reachable allocated (plain_entry one) told'.0 (heads _ _ [] (map all_spelled (rest entries' reachable' allocated')) same).0
rest-same (one ∷ entries) [] reachable reachable' allocated allocated' told told' same =
    no-end reachable' allocated' (plain_entry one) told.0 (sym (heads _ _ (map all_spelled (rest entries reachable allocated)) [] same).0)
rest-same (one ∷ entries) (other ∷ entries') reachable reachable' allocated allocated' told told' same =
    let parts = heads (all_spelled (entry_line (plain_entry one))) (all_spelled (entry_line (plain_entry other)))
    (map all_spelled (rest entries reachable allocated)) (map all_spelled (rest entries' reachable' allocated')) same in
    let first = same-some (plain_entry one) (plain_entry other)
    (sym (entry_in-line (plain_entry one) _ (told.0, refl)) ∙ (ap entry_in parts.0 ∙ entry_in-line (plain_entry other) _ (told'.0, refl))) in
    let others = rest-same entries entries' reachable reachable' allocated allocated' told.1 told'.1 parts.1 in
    (ap (λ (e : Entry). e ∷ map plain_entry entries) first ∙ ap (λ (es : List Entry). plain_entry other ∷ es) others.0, others.1, others.2)

pub once : TraceOnce
once world world' entries entries' reachable reachable' allocated allocated' told told' same =
    let lines = same-words (trace_lines world.0 world.1 entries reachable allocated) (trace_lines world'.0 world'.1 entries' reachable' allocated')
    (clean-line (world_line world.0 world.1) refl told.0, are-rest entries reachable allocated told.1)
    (clean-line (world_line world'.0 world'.1) refl told'.0, are-rest entries' reachable' allocated' told'.1) same in
    let parts = heads (all_spelled (world_line world.0 world.1)) (all_spelled (world_line world'.0 world'.1))
    (map all_spelled (rest entries reachable allocated)) (map all_spelled (rest entries' reachable' allocated')) lines in
    let first = same-some world world' (sym (world-found world _ (told.0, refl)) ∙ (ap world_of parts.0 ∙ world-found world' _ (told'.0, refl))) in
    let others = rest-same entries entries' reachable reachable' allocated allocated' told.1 told'.1 parts.1 in
    record { world_same = first; entries_same = others.0; reachable_same = others.1; allocated_same = others.2 }
