-- The test whether two reports are equal.
use Rattle.std.proofs.Common.{◌≡◌, refl, sym, subst, Bool, true, false, Option, Some, None, inl, inr}
use Rattle.std.specs.Prelude.{◌==◌, ◌&&◌}
use Rattle.std.proofs.lemmas.Bool.{and_parts, eqb-true}
use Rattle.plx_commands.specs.Images.{Image, report_of}
use Rattle.plx_commands.specs.Reports.{IsReported, same_report, same_flag, same_bytes}
use Rattle.plx_commands.specs.declared.reply.Report.{Report}
use Rattle.plx_model.specs.Shown.{is_report_of}
use Rattle.plx_commands.proofs.SameReports.{same-report}
use Rattle.plx_model.proofs.SameBytes.{same_bytes-equal}

same_flag-equal : (b c : Bool) → same_flag b c ≡ true → b ≡ c
same_flag-equal true c h = sym h
same_flag-equal false true h = h
same_flag-equal false false h = refl

same_report-equal : (r s : Report) → same_report r s ≡ true → r ≡ s
same_report-equal r s h0 =
    let h1 : ((r.generation == s.generation) && ((r.size == s.size) && ((r.taken == s.taken) && ((r.dropped == s.dropped) && (same_flag r.live s.live && same_bytes r.label s.label))))) ≡ true = (and_parts (r.writes == s.writes) _ h0).1 in
    let h2 : ((r.size == s.size) && ((r.taken == s.taken) && ((r.dropped == s.dropped) && (same_flag r.live s.live && same_bytes r.label s.label)))) ≡ true = (and_parts (r.generation == s.generation) _ h1).1 in
    let h3 : ((r.taken == s.taken) && ((r.dropped == s.dropped) && (same_flag r.live s.live && same_bytes r.label s.label))) ≡ true = (and_parts (r.size == s.size) _ h2).1 in
    let h4 : ((r.dropped == s.dropped) && (same_flag r.live s.live && same_bytes r.label s.label)) ≡ true = (and_parts (r.taken == s.taken) _ h3).1 in
    let h5 : (same_flag r.live s.live && same_bytes r.label s.label) ≡ true = (and_parts (r.dropped == s.dropped) _ h4).1 in
    let writes : r.writes ≡ s.writes = eqb-true _ _ (and_parts (r.writes == s.writes) _ h0).0 in
    let generation : r.generation ≡ s.generation = eqb-true _ _ (and_parts (r.generation == s.generation) _ h1).0 in
    let size : r.size ≡ s.size = eqb-true _ _ (and_parts (r.size == s.size) _ h2).0 in
    let taken : r.taken ≡ s.taken = eqb-true _ _ (and_parts (r.taken == s.taken) _ h3).0 in
    let dropped : r.dropped ≡ s.dropped = eqb-true _ _ (and_parts (r.dropped == s.dropped) _ h4).0 in
    let live : r.live ≡ s.live = same_flag-equal _ _ (and_parts (same_flag r.live s.live) _ h5).0 in
    let label : r.label ≡ s.label = same_bytes-equal _ _ (and_parts (same_flag r.live s.live) _ h5).1 in
    λ i. record {
      live = live i;
      generation = generation i;
      size = size i;
      writes = writes i;
      taken = taken i;
      dropped = dropped i;
      label = label i;
    }

same_report-along : (r s : Report) → r ≡ s → same_report r s ≡ true
same_report-along r s e = subst (λ t. same_report r t ≡ true) e (same-report r)

-- the test for the report of an image, if there is one
reported_of : (image : Option Image) (r : Report) → is_report_of image r ≡ true → (other : Image) × (image ≡ Some other) × (r ≡ report_of other)
reported_of None r h = cc
reported_of (Some image) r h = (image, refl, same_report-equal r (report_of image) h)

of_reported : (image : Option Image) (r : Report) → ((other : Image) × (image ≡ Some other) × (r ≡ report_of other)) → is_report_of image r ≡ true
of_reported image r h = subst (λ (o : Option Image). is_report_of o r ≡ true) (sym h.1) (same_report-along r (report_of h.0) h.2)

-- the two tests decide whether a report is permitted
pub reported_by_own : (image : Image) (change : Option Image) (r : Report) → is_report_of (Some image) r ≡ true → IsReported image change r
reported_by_own image change r h = inl (same_report-equal r (report_of image) h)

pub reported_by_change : (image : Image) (change : Option Image) (r : Report) → is_report_of change r ≡ true → IsReported image change r
reported_by_change image change r h = inr (reported_of change r h)

pub reported_either : (image : Image) (change : Option Image) (r : Report) → is_report_of (Some image) r ≡ false → IsReported image change r → is_report_of change r ≡ true
reported_either image change r h (inl e) = let same : same_report r (report_of image) ≡ true = same_report-along r (report_of image) e in cc
reported_either image change r h (inr e) = of_reported change r e
