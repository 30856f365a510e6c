use Rattle.std.proofs.Common.{inl, inr, le_refl, length, refl}
use Rattle.plx_cli.proofs.Given.{answers-bad, answers-schedule, ends-given, ends-taken, fault-not-long, fits-not, fits-so, not-long, slice-ends, takes-none}
use Rattle.plx_cli.proofs.Statuses.{answers-only, answers-short, differs}
use Rattle.plx_cli.specs.declared.status.Status.TheVariants.{Done, Usage, BadLine, SourceFault, SinkFault, TooLong}
use Rattle.plx_cli.proofs.program.run.Goals as goal

pub returns-then-not-is_replay : goal.returns-then-not-is_replay
returns-then-not-is_replay g c = record {
  laws = record { worlds = c.laws.ensures; texts = c.texts.ensures };
  written = record {
    done = λ is. differs _ Done refl is;
    bad = λ is. differs _ BadLine refl is;
    part = λ is. differs _ SinkFault refl is;
  };
  untouched = (λ is. refl, λ undone named failed. refl);
  usage = (
    λ is fits.
        fits-not _ _ c.as_slice.ensures.value c.if-not-is_replay.ensures.1 fits,
    λ unfit. refl,
  );
  cause = record {
    source = λ is. differs _ SourceFault refl is;
    sink = λ is. differs _ SinkFault refl is;
    long = λ is. differs _ TooLong refl is;
    within = λ short. takes-none _;
    counts = (le_refl _, le_refl _);
  };
  answered = λ fits. record {
    exact = λ bytes line given first.
        fits-not _ _ c.as_slice.ensures.value c.if-not-is_replay.ensures.1 fits;
    complete = λ bytes first events given schedule sound.
        fits-not _ _ c.as_slice.ensures.value c.if-not-is_replay.ensures.1 fits;
  };
}

pub returns-in-Ok : goal.returns-in-Ok
returns-in-Ok g c =
    let ends = slice-ends _ _ _ _ c.as_slice-in-Ok.ensures.value c.in-Ok.ensures.ok in
    record {
      laws = record { worlds = c.laws.ensures; texts = c.texts.ensures };
      written = record {
        done = λ is. (_, ends, c.answer.ensures.done is);
        bad = λ is. (_, ends, c.answer.ensures.bad is);
        part = λ is. (_, ends, c.answer.ensures.part is);
      };
      untouched = (
        λ is. answers-only _ Usage c.answer.ensures.status refl refl refl refl is,
        λ undone named failed.
            c.answer.ensures.silent (answers-short _ c.answer.ensures.status undone named failed),
      );
      usage = (
        λ is. answers-only _ Usage c.answer.ensures.status refl refl refl refl is,
        λ unfit. fits-so _ _ c.as_slice.ensures.value (c.if-not-is_replay.ensures.0 refl)
            unfit,
      );
      cause = record {
        source = λ is. answers-only _ SourceFault c.answer.ensures.status refl refl refl refl is;
        sink = c.answer.ensures.faults.0;
        long = λ is. answers-only _ TooLong c.answer.ensures.status refl refl refl refl is;
        within = λ short.
            (length c.in-Ok.bytes.items, c.in-Ok.ensures.short, ends-taken _ _ _ c.in-Ok.ensures.ok);
        counts = (c.in-Ok.ensures.faults, c.answer.ensures.faults.1);
      };
      answered = λ fits. record {
        exact = λ bytes line given first.
            let same = ends-given _ _ _ bytes ends given.tells in
            answers-bad c.answer.result _ bytes _ _ line c.answer.ensures.status
            c.answer.ensures.done same first;
        complete = λ bytes first events given schedule sound.
            let same = ends-given _ _ _ bytes ends given.tells in
            answers-schedule c.answer.result _ bytes _ _ _ _ first events c.answer.ensures.status
            c.answer.ensures.bad c.answer.ensures.faults.0 same schedule sound;
      };
    }

pub returns-in-Err-Failed : goal.returns-in-Err-Failed
returns-in-Err-Failed g c = record {
  laws = record { worlds = c.laws.ensures; texts = c.texts.ensures };
  written = record {
    done = λ is. differs _ Done refl is;
    bad = λ is. differs _ BadLine refl is;
    part = λ is. differs _ SinkFault refl is;
  };
  untouched = (λ is. differs _ Usage refl is, λ undone named failed. refl);
  usage = (
    λ is. differs _ Usage refl is,
    λ unfit. fits-so _ _ c.as_slice.ensures.value (c.if-not-is_replay.ensures.0 refl)
        unfit,
  );
  cause = record {
    source = λ is. c.in-Err-Failed.ensures.failed (cc);
    sink = λ is. differs _ SinkFault refl is;
    long = λ is. differs _ TooLong refl is;
    within = λ short.
        c.in-Err-Failed.ensures.stopped (fault-not-long _ (inl c.in-Err-Failed.field-0-is));
    counts = (c.in-Err-Failed.ensures.faults, le_refl _);
  };
  answered = λ fits. record {
    exact = λ bytes line given first.
        absurd (given.sound (c.in-Err-Failed.ensures.failed (cc)));
    complete = λ bytes first events given schedule sound.
        absurd (given.sound (c.in-Err-Failed.ensures.failed (cc)));
  };
}

pub returns-in-Err-NoMemory : goal.returns-in-Err-NoMemory
returns-in-Err-NoMemory g c = record {
  laws = record { worlds = c.laws.ensures; texts = c.texts.ensures };
  written = record {
    done = λ is. differs _ Done refl is;
    bad = λ is. differs _ BadLine refl is;
    part = λ is. differs _ SinkFault refl is;
  };
  untouched = (λ is. differs _ Usage refl is, λ undone named failed. refl);
  usage = (
    λ is. differs _ Usage refl is,
    λ unfit. fits-so _ _ c.as_slice.ensures.value (c.if-not-is_replay.ensures.0 refl)
        unfit,
  );
  cause = record {
    source = λ is. differs _ SourceFault refl is;
    sink = λ is. differs _ SinkFault refl is;
    long = λ is. differs _ TooLong refl is;
    within = λ short.
        c.in-Err-NoMemory.ensures.stopped (fault-not-long _ (inr c.in-Err-NoMemory.field-0-is));
    counts = (c.in-Err-NoMemory.ensures.faults, le_refl _);
  };
  answered = λ fits. record {
    exact = λ bytes line given first. inr (inr refl);
    complete = λ bytes first events given schedule sound. inr refl;
  };
}

pub returns-in-Err-TooLong : goal.returns-in-Err-TooLong
returns-in-Err-TooLong g c = record {
  laws = record { worlds = c.laws.ensures; texts = c.texts.ensures };
  written = record {
    done = λ is. differs _ Done refl is;
    bad = λ is. differs _ BadLine refl is;
    part = λ is. differs _ SinkFault refl is;
  };
  untouched = (λ is. differs _ Usage refl is, λ undone named failed. refl);
  usage = (
    λ is. differs _ Usage refl is,
    λ unfit. fits-so _ _ c.as_slice.ensures.value (c.if-not-is_replay.ensures.0 refl)
        unfit,
  );
  cause = record {
    source = λ is. differs _ SourceFault refl is;
    sink = λ is. differs _ SinkFault refl is;
    long = λ is. c.in-Err-TooLong.ensures.long (cc);
    within = λ short. absurd (short refl);
    counts = (c.in-Err-TooLong.ensures.faults, le_refl _);
  };
  answered = λ fits. record {
    exact = λ bytes line given first.
        absurd (not-long _ _ bytes _ _ (c.in-Err-TooLong.ensures.long (cc)) given);
    complete = λ bytes first events given schedule sound.
        absurd (not-long _ _ bytes _ _ (c.in-Err-TooLong.ensures.long (cc)) given);
  };
}
