use Rattle.std.proofs.Common.{append-nil, ◌<◌, length, arith, sym}
use Rattle.plx_commands.specs.declared.entry.Entry.{Entry}
use Rattle.plx_words.proofs.Spaced.{lines-more, text-none}
use Rattle.plx_text.specs.Traces.{entry_line, plain_entry}
use Rattle.plx_text.proofs.print.push_entries.Goals as goal

pub loop-entry-init : goal.loop-entry-init
loop-entry-init c = record { text = rw (text-none, append-nil); tells = tt }

pub loop-entry-preserved : goal.loop-entry-preserved
loop-entry-preserved c =
    let below : c.loop-entry.entry-index < length c.args.entries.now = omega arith in
    lines-more (λ (one : Entry). entry_line (plain_entry one)) c.args.entries.now c.loop-entry.entry-index c.entry-item.result _ _ _ below (sym c.entry-item.is)
    c.loop-entry.invariant c.in_ok-push_entry.ensures
