-- The end of a run: the server leaves, and the last item is written.
use Rattle.std.specs.Prelude.{IfSome}
use Rattle.std.specs.Option.{option_map}
use Rattle.std.proofs.Common.{inl, inr, ◌⊎◌, ◌≡◌, ℕ, ◌^◌, ◌<◌, List, [], ◌++◌, length, Option, Some, None, refl, sym, ap, subst, ◌∙◌, append_assoc, arith}
use Rattle.message_run.specs.Behaviour.{Behaviour}
use Rattle.message_run.specs.Outcomes.{Close, Complete, Outcome, outcome_of, output_at, output_of, done_of, status_of, trailer_of, status_at}
use Rattle.message_run.specs.Written.{Wrote, WrotePart}
use Rattle.message_run.specs.Reading.{Stopped, close_of}
use Rattle.message_run.specs.Runs.{Told, Runs, RunsOver, IsClosing}
use Rattle.message_run.specs.declared.stop.Stop.{Stop}
use Rattle.message_run.specs.declared.stop.Stop.TheVariants as why
use Rattle.message_run.proofs.Sinks.{wrote_nothing, wrote_more, part_more}
use Rattle.message_run.proofs.Runs.{then_told}

-- the server may leave
pub may_leave : (f : Behaviour) (stands : List (List ℕ) → Type 0) (stop : Stop) (told : Told) (close : Close) → Stopped f stands stop told → close_of stop ≡ Some close → (done : List (List ℕ)) × stands done × (length done < 2 ^ 61)
may_leave f stands stop told close h e =
    let c = h.closes close e in
    (done_of f h.taken, c.2, omega (arith, c.3))

part_then : (before now after : Option (List ℕ)) (bytes more : List ℕ) → Wrote before bytes now → WrotePart now more after → WrotePart before (bytes ++ more) after
part_then before now after bytes more w p = record {
  written = bytes ++ p.written;
  others = p.others;
  parts = ap (λ (x : List ℕ). bytes ++ x) p.parts ∙ sym (append_assoc bytes p.written p.others);
  wrote = wrote_more before now after bytes p.written w p.wrote;
}

-- of the last item nothing was written
answers_alone : (before now after : Option (List ℕ)) (bytes : List ℕ) (status : ℕ) → WrotePart before bytes now → (status ≡ 4 → ⊥) → (status ≡ 6 → after ≡ now) → (status ≡ 4) ⊎ (status ≡ 6) → WrotePart before bytes after
answers_alone before now after bytes status w other lacks (inl four) = absurd (other four)
answers_alone before now after bytes status w other lacks (inr six) = subst (λ (x : Option (List ℕ)). WrotePart before bytes x) (sym (lacks six)) w

-- it closes, and the last item was written, or a part of it
pub runs_closed : (f : Behaviour) (stands later left : List (List ℕ) → Type 0) (stop : Stop) (told : Told) (close : Close) (status : ℕ) (after : Option (List ℕ)) → Stopped f stands stop told → close_of stop ≡ Some close
    → (IsClosing status → (status_at close ≡ status) × Wrote told.sink.after (trailer_of close) after) → WrotePart told.sink.after (trailer_of close) after → ((done : List (List ℕ)) → stands done → length done < 2 ^ 61 → left done)
    → (status ≡ 0 → stop ≡ why.Finished) → (status ≡ 4 → ⊥) → (status ≡ 6 → after ≡ told.sink.after) → Runs f later left status (then_told told told.source.taken_after told.source.left_after after)
runs_closed f stands later left stop told close status after h e whole part leaves finished other lacks =
    let c = h.closes close e in
    let out : output_of f h.taken ≡ (outcome_of f h.taken).written ++ trailer_of close = ap (λ (x : Close). (outcome_of f h.taken).written ++ trailer_of x) c.0 in
    record {
      taken = h.taken;
      taken_is = h.taken_is;
      left_is = h.left_is;
      whole = λ t.
          let w = whole t in
          (ap status_at c.0 ∙ w.0, rw out (wrote_more told.sink.before told.sink.after after (outcome_of f h.taken).written (trailer_of close) c.1 w.1), leaves (done_of f h.taken) c.2 (omega (arith, c.3)));
      still = λ t rest l. h.still close e rest l;
      over = λ z. h.over (finished z);
      failed = λ z. absurd (other z);
      answers = answers_alone told.sink.before told.sink.after after (outcome_of f h.taken).written status h.answers other lacks;
      part = rw out (part_then told.sink.before told.sink.after after (outcome_of f h.taken).written (trailer_of close) c.1 part);
    }

-- ---- where the source tells its input

rest_of : (input taken : List ℕ) (after : Option (List ℕ)) → Some input ≡ option_map (λ rest. taken ++ rest) after → (rest : List ℕ) × (after ≡ Some rest) × (input ≡ taken ++ rest)
rest_of input taken None e = absurd cc
rest_of input taken (Some rest) e = (rest, refl, cc)

none_of : (left : Option (List ℕ)) (rest : List ℕ) → left ≡ Some rest → IfSome left (λ l. l ≡ []) → rest ≡ []
none_of None rest e h = absurd cc
none_of (Some l) rest e h = let same : l ≡ rest = cc in sym same ∙ h

pub runs_over : (f : Behaviour) (stands left : List (List ℕ) → Type 0) (status : ℕ) (input : List ℕ) (told : Told) → Runs f stands left status told → told.source.left_before ≡ Some input → RunsOver f stands left status input told
runs_over f stands left status input told h e =
    let r = rest_of input h.taken told.source.left_after (sym e ∙ h.left_is) in
    let same : IsClosing status → outcome_of f input ≡ outcome_of f h.taken = λ t. ap (outcome_of f) r.2 ∙ h.still t r.0 r.1 in
    let whole : IsClosing status → (status_of f input ≡ status) × Wrote told.sink.before (output_of f input) told.sink.after × left (done_of f input)
    = λ t.
    let w = h.whole t in
    (ap (λ (o : Outcome). status_at o.close) (same t) ∙ w.0, subst (λ (o : Outcome). Wrote told.sink.before (output_at o) told.sink.after) (sym (same t)) w.1, subst (λ (o : Outcome). left o.done) (sym (same t)) w.2) in
    record {
      taken = h.taken;
      rest = r.0;
      input_is = r.2;
      taken_is = h.taken_is;
      left_is = r.1;
      done = λ z. let w = whole (inl z) in (w.0 ∙ z, none_of told.source.left_after r.0 r.1 (h.over z), w.1);
      unreadable = λ z. let w = whole (inr (inl z)) in (w.0 ∙ z, w.1);
      refused = λ z. let w = whole (inr (inr z)) in (w.0 ∙ z, w.1);
      server = λ t. (whole t).2;
      failed = h.failed;
      answers = h.answers;
      part = h.part;
    }

-- the status of a closed run
pub finished_here : (after : Option (List ℕ)) → (status_at Complete ≡ 0) × Wrote after (trailer_of Complete) after
finished_here after = (refl, wrote_nothing after)

pub nothing_to_close : (after : Option (List ℕ)) → WrotePart after (trailer_of Complete) after
nothing_to_close after = record { written = []; others = []; parts = refl; wrote = wrote_nothing after }

-- the status goes with the last item
pub last_written : (status result : ℕ) (close : Close) (now after : Option (List ℕ)) → status_at close ≡ status → (status ≡ 3) ⊎ (status ≡ 7) → (result ≡ status) ⊎ (result ≡ 5) ⊎ (result ≡ 6) → (result ≡ status → Wrote now (trailer_of close) after)
    → IsClosing result → (status_at close ≡ result) × Wrote now (trailer_of close) after
last_written status result close now after is which (inl same) wrote t = (is ∙ sym same, wrote same)
last_written status result close now after is which (inr h) wrote (inl z) = absurd (omega (arith, h, z))
last_written status result close now after is which (inr h) wrote (inr (inl z)) = absurd (omega (arith, h, z))
last_written status result close now after is which (inr h) wrote (inr (inr z)) = absurd (omega (arith, h, z))

pub not_zero : (status result : ℕ) (stop : Stop) → (status ≡ 3) ⊎ (status ≡ 7) → (result ≡ status) ⊎ (result ≡ 5) ⊎ (result ≡ 6) → result ≡ 0 → stop ≡ why.Finished
not_zero status result stop (inl three) h z = absurd (omega (arith, three, h, z))
not_zero status result stop (inr seven) h z = absurd (omega (arith, seven, h, z))

pub not_four : (status result : ℕ) → (status ≡ 3) ⊎ (status ≡ 7) → (result ≡ status) ⊎ (result ≡ 5) ⊎ (result ≡ 6) → result ≡ 4 → ⊥
not_four status result (inl three) h z = absurd (omega (arith, three, h, z))
not_four status result (inr seven) h z = absurd (omega (arith, seven, h, z))

-- reading or writing failed, or there was no memory
pub runs_failed : (f : Behaviour) (stands left : List (List ℕ) → Type 0) (stop : Stop) (told : Told) (status : ℕ) → Stopped f stands stop told → (IsClosing status → ⊥) → (status ≡ 4 → stop ≡ why.ReadFault) → Runs f stands left status told
runs_failed f stands left stop told status h goes_on unreadable = record {
  taken = h.taken;
  taken_is = h.taken_is;
  left_is = h.left_is;
  whole = λ t. absurd (goes_on t);
  still = λ t. absurd (goes_on t);
  failed = λ z. h.failed (unreadable z);
  over = λ z. absurd (goes_on (inl z));
  answers = λ which. h.answers;
  part = part_more told.sink.before told.sink.after (outcome_of f h.taken).written (trailer_of (outcome_of f h.taken).close) h.answers;
}

pub goes_on : (status : ℕ) → (status ≡ 4) ⊎ (status ≡ 5) ⊎ (status ≡ 6) → IsClosing status → ⊥
goes_on status which (inl z) = omega (arith, which, z)
goes_on status which (inr (inl z)) = omega (arith, which, z)
goes_on status which (inr (inr z)) = omega (arith, which, z)
