use Rattle.std.proofs.Common.{◌++◌, length, take, length-drop, ap, sym, subst, ◌∙◌, arith}
use Rattle.std.proofs.Math.Seq.{take-add}
use Rattle.std.proofs.lemmas.List.{take_rest}
use Rattle.std.proofs.KnownBytes.{Appends-trans}
use Rattle.std.specs.Io.KnownBytes.{Appends}
use Rattle.plx_port.proofs.writing.write_all.Goals as goal

pub loop-at-preserved : goal.loop-at-preserved
loop-at-preserved g c =
    let bytes = c.args.bytes.now in
    let at = c.loop-at.at in
    let n = c.in_ok-at.field-0 in
    let joined = take-add at n bytes ∙ ap (λ l. take at bytes ++ take n l) (sym (take_rest bytes at)) in
    record {
      within = omega (arith, c.in_ok-at.ensures.count, ap length (take_rest bytes at), length-drop at bytes, c.loop-at.invariant.within);
      written = subst (Appends _ _) (sym joined) (Appends-trans _ _ _ _ _ c.loop-at.invariant.written c.in_ok-at.ensures.appended);
      faults = omega (arith, c.in_ok-at.ensures.faults, c.loop-at.invariant.faults);
    }
