use Rattle.std.proofs.Common.{ap, sym, subst, ◌∙◌}
use Rattle.plx_base.specs.Blocks.{with_bytes_at}
use Rattle.plx_base.specs.Spelling.{OnlySector, fields_bytes}
use Rattle.plx_gate.specs.Entries.{entry_sector, entry_start, read_entry}
use Rattle.plx_gate.proofs.Entries.{entry-back, entry-eq, entry-sector, other-entry}
use Rattle.plx_gate.proofs.entry.write_entry.Goals as goal

pub returns-clause-written : goal.returns-clause-written
returns-clause-written c =
    c.put_fields.ensures.same
    ∙ (ap (λ f. with_bytes_at (entry_start c.args.index) (fields_bytes f) c.args.bytes.now) c.fields.ensures
    ∙ ap (λ xs. with_bytes_at (entry_start c.args.index) xs c.args.bytes.now) (sym (entry-eq c.args.value.now)))

pub returns-clause-here : goal.returns-clause-here
returns-clause-here c =
    ap (read_entry c.args.index) (returns-clause-written c) ∙ entry-back c.args.index c.args.value.now c.args.bytes.now c.requires.long c.requires.index c.requires.limits

pub returns-clause-others : goal.returns-clause-others
returns-clause-others c =
    λ other apart. ap (read_entry other) (returns-clause-written c) ∙ other-entry c.args.index other c.args.value.now c.args.bytes.now c.requires.long c.requires.index apart

pub returns-clause-sector : goal.returns-clause-sector
returns-clause-sector c =
    subst (λ x. OnlySector (entry_sector c.args.index) x c.args.bytes.now) (sym (returns-clause-written c))
    (entry-sector c.args.index c.args.value.now c.args.bytes.now c.requires.long c.requires.index)
