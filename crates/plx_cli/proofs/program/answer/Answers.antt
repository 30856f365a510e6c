use Rattle.std.proofs.Common.{inl, inr, le_refl, refl}
use Rattle.plx_cli.proofs.Statuses.{differs, outcome-answer, outcome-bad, outcome-only, outcome-status, outcome-trace}
use Rattle.plx_cli.specs.declared.status.Status.TheVariants.{Done, BadLine, SinkFault, NoMemory}
use Rattle.plx_cli.proofs.program.answer.Goals as goal

pub returns-in_default : goal.returns-in_default
returns-in_default g c = record {
  status = inr (inr (inr refl));
  done = λ is. differs _ Done refl is;
  bad = λ is. differs _ BadLine refl is;
  part = λ is. differs _ SinkFault refl is;
  silent = λ is. refl;
  faults = (λ is. differs _ SinkFault refl is, le_refl _);
}

pub returns : goal.returns
returns g c = record {
  status = inr (inr (inl refl));
  done = λ is. differs _ Done refl is;
  bad = λ is. differs _ BadLine refl is;
  part = λ is. (
    _,
    outcome-answer _ _ _ _ c.as_slice.ensures c.in-Ok.ensures,
    c.in-Err.ensures.err.0,
    c.in-Err.ensures.err.1,
    c.in-Err.ensures.err.2,
  );
  silent = λ is. differs _ NoMemory refl is;
  faults = (λ is. c.in-Err.ensures.failed, c.in-Err.ensures.faults);
}

pub returns-in-Ok-write_all : goal.returns-in-Ok-write_all
returns-in-Ok-write_all g c = record {
  status = outcome-status _ _ _ c.in-Ok.ensures;
  done = λ is.
      (_, outcome-trace _ _ _ _ c.as_slice.ensures c.in-Ok.ensures is, c.in-Ok-write_all.ensures.ok);
  bad = λ is.
      (_, outcome-bad _ _ _ _ c.as_slice.ensures c.in-Ok.ensures is, c.in-Ok-write_all.ensures.ok);
  part = λ is. outcome-only _ _ _ SinkFault c.in-Ok.ensures refl refl is;
  silent = λ is. outcome-only _ _ _ NoMemory c.in-Ok.ensures refl refl is;
  faults = (λ is. outcome-only _ _ _ SinkFault c.in-Ok.ensures refl refl is, c.in-Ok-write_all.ensures.faults);
}
