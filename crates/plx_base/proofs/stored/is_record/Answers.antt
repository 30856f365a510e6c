use Rattle.std.proofs.Common.{◌≡◌, ◌∙◌, ◌≤◌, ap, sym, subst, length, true, false, List, ℕ, arith}
use Rattle.std.proofs.lemmas.Slice.Eq.{bytes_eq-Decides}
use Rattle.std.specs.List.{All}
use Rattle.plx_base.specs.Spelling.{head_of}
use Rattle.plx_base.proofs.Spelling.{length-spelled, length-spelled_head, record-sectors, sectors-record, spelled-head}
use Rattle.plx_base.proofs.stored.is_record.Goals as goal

pub returns-then-bytes-ne-BLOCK_LEN : goal.returns-then-bytes-ne-BLOCK_LEN
returns-then-bytes-ne-BLOCK_LEN c = (
  (λ told. (let bad : false ≡ true = told in cc)),
  λ same.
      absurd (c.if-bytes-ne-BLOCK_LEN.true (ap length same ∙ length-spelled c.args.magic.now c.args.fields.now c.args.last.now (let short = c.requires in omega (arith, short)))),
)

pub returns-then-eq : goal.returns-then-eq
returns-then-eq c =
    let magic = c.args.magic.now in
    let fields = c.args.fields.now in
    let last = c.args.last.now in
    let bytes = c.args.bytes.now in
    let sector = c.put_head.new.bytes in
    let wide = length-spelled_head magic fields last in
    let fits = c.requires in
    let short : length (head_of magic fields last) ≤ 512 = omega (arith, wide, fits) in
    let first = (bytes_eq-Decides c.split_at.result.0.now c.as_slice.result.now).0 (sym c.eq.ensures ∙ c.if-eq.true) in
    let zeros : List ℕ → Type 0 = λ bs. All (λ b. b ≡ 0) bs in (
      (λ told.
          sectors-record bytes (head_of magic fields last) sector c.if-bytes-ne-BLOCK_LEN.false short c.put_head.ensures
          (sym c.split_at.ensures.front ∙ (first ∙ c.as_slice.ensures))
          (subst zeros c.split_at.ensures.back (c.are_all.ensures.0 told))
          ∙ sym (spelled-head magic fields last)),
      λ same.
          c.are_all.ensures.1
          (subst zeros (sym c.split_at.ensures.back)
          (record-sectors bytes (head_of magic fields last) sector short c.put_head.ensures (same ∙ spelled-head magic fields last)).1),
    )

pub returns-else-eq : goal.returns-else-eq
returns-else-eq c =
    let magic = c.args.magic.now in
    let fields = c.args.fields.now in
    let last = c.args.last.now in
    let wide = length-spelled_head magic fields last in
    let fits = c.requires in
    let short : length (head_of magic fields last) ≤ 512 = omega (arith, wide, fits) in (
      (λ told. (let bad : false ≡ true = sym c.if-eq.false ∙ told in cc)),
      λ same.
          c.eq.ensures
          ∙ (bytes_eq-Decides c.split_at.result.0.now c.as_slice.result.now).1
          (c.split_at.ensures.front
          ∙ ((record-sectors c.args.bytes.now (head_of magic fields last) c.put_head.new.bytes short c.put_head.ensures (same ∙ spelled-head magic fields last)).0
          ∙ sym c.as_slice.ensures)),
    )
