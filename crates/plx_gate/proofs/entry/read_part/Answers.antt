use Rattle.std.proofs.Common.{◌≡◌, ap, sym, ◌∙◌, refl, true, false, replicate}
use Rattle.std.proofs.lemmas.Slice.Eq.{bytes_eq-Decides}
use Rattle.std.specs.Prelude.{not}
use Rattle.std.specs.Str.{bytes_eq}
use Rattle.plx_base.specs.Blocks.{with_bytes_at}
use Rattle.plx_base.specs.Spelling.{fields_bytes}
use Rattle.plx_gate.specs.Entries.{entry_bytes}
use Rattle.plx_gate.proofs.Entries.{entry-alone, entry-other, entry-some}
use Rattle.plx_gate.proofs.entry.read_part.Goals as goal

pub returns-then-ne : goal.returns-then-ne
returns-then-ne c =
    let e = c.in_ok-entry.entry in
    let bytes = c.args.bytes.now in
    let spelled : c.as_slice.result.now ≡ entry_bytes e =
    c.as_slice.ensures ∙ entry-alone e c.put_fields.new.bytes (c.put_fields.ensures.same ∙ ap (λ f. with_bytes_at 0 (fields_bytes f) (replicate 32 0)) c.fields.ensures) in
    entry-other bytes e c.in_ok-entry.ensures.same
    (λ same. let told = (bytes_eq-Decides bytes c.as_slice.result.now).1 (same ∙ sym spelled) in let bad : true ≡ false = c.if-ne.ensures ∙ ap not told in cc)

pub returns : goal.returns
returns c =
    let e = c.in_ok-entry.entry in
    let bytes = c.args.bytes.now in
    let spelled : c.as_slice.result.now ≡ entry_bytes e =
    c.as_slice.ensures ∙ entry-alone e c.put_fields.new.bytes (c.put_fields.ensures.same ∙ ap (λ f. with_bytes_at 0 (fields_bytes f) (replicate 32 0)) c.fields.ensures) in
    entry-some bytes e c.in_ok-entry.ensures.same c.in_ok-entry.ensures.limits
    ((bytes_eq-Decides bytes c.as_slice.result.now).0 (not-not (bytes_eq bytes c.as_slice.result.now) c.if-ne.ensures) ∙ spelled)
  where
    not-not : (b : _) → false ≡ not b → b ≡ true
    not-not true h = refl
    not-not false h = cc
