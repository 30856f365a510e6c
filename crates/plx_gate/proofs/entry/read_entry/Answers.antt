use Rattle.std.proofs.Common.{◌≡◌, ◌+◌, ◌-◌, ◌*◌, ap, sym, subst, ◌∙◌, arith, take, drop}
use Rattle.plx_base.specs.Spelling.{IsReading}
use Rattle.plx_gate.specs.Entries.{IsEntry, entry_bytes, entry_of, entry_part, entry_start}
use Rattle.plx_gate.proofs.Entries.{entry-at, entry-reading}
use Rattle.plx_gate.proofs.entry.read_entry.Goals as goal

pub returns-clause-same : goal.returns-clause-same
returns-clause-same c =
    let e : 32 * c.args.index + 32 - 32 * c.args.index ≡ 32 = omega arith in
    c.read_part.ensures ∙ (ap (λ n. entry_of (take n (drop (entry_start c.args.index) c.args.bytes.now))) e ∙ sym (entry-at c.args.index c.args.bytes.now))

pub returns-clause-grammar : goal.returns-clause-grammar
returns-clause-grammar c =
    subst (IsReading IsEntry entry_bytes (entry_part c.args.index c.args.bytes.now)) (sym (returns-clause-same c)) (entry-reading c.args.index c.args.bytes.now)
