-- Sent frames that reset no stream stop nothing.
use Rattle.std.proofs.Common.{◌≡◌, ℕ, ◌+◌, ◌≤◌, Bool, ◌&&◌, true, false, List, [], ◌∷◌, ◌++◌, length, map, Option, Some, None, refl, sym, ap, ◌∙◌, arith, append_assoc, append-nil, length-append}
use Rattle.std.specs.Prelude.{nat_lt, if◌then◌else◌}
use Rattle.std.specs.Option.{option_or}
use Rattle.std.proofs.lemmas.Bool.{and_left}
use Rattle.std.proofs.lemmas.Bool.Decides.{nat_tests}
use Rattle.h2_frames.specs.declared.frame.Frame.{Frame}
use Rattle.h2_exchange.specs.declared.limits.CalmCause.TheVariants.{Resets}
use Rattle.h2_exchange.specs.declared.limits.H2Limits.{H2Limits}
use Rattle.h2_exchange.specs.declared.role.Role.{Role}
use Rattle.h2_exchange.specs.Content.{Outcome}
use Rattle.h2_exchange.specs.Exchange.{Step, Sent, collect, first_given}
use Rattle.h2_exchange.specs.Frames.{is_rst_stream, stream_of}
use Rattle.h2_exchange.specs.Stops.{Calm, count_steps, cuts_request, ends_call, events, has_many_resets, received_stop, stop_at, stop_of}
use Rattle.h2_exchange.specs.Streams.{is_begun}
use Rattle.h2_exchange.proofs.Looking.{collect_push}
use Rattle.h2_exchange.proofs.Staying.{events_go_on}

-- none of these frames resets a stream
abbrev pub ResetNone : List Frame → Type 0
ResetNone [] = Unit {0}
ResetNone (f ∷ fs) = (is_rst_stream f ≡ false) × ResetNone fs

none_of : {A : Type 0} (o later : Option A) → option_or o later ≡ None → (o ≡ None) × (later ≡ None)
none_of None later e = (refl, e)
none_of (Some a) later e = absurd cc

plus_zero : (n : ℕ) → n + 0 ≡ n
plus_zero n = omega arith

module _ (role : Role) (limits : H2Limits) (heads : List Outcome) where
  unset : (b : Bool) → (if b then Some (Calm Resets) else None) ≡ None → b ≡ false
  unset true e = absurd cc
  unset false e = refl

  few_from : (past x : List Step) → has_many_resets role limits heads past ≡ false → first_given (stop_at role limits heads) past x ≡ None → has_many_resets role limits heads (past ++ x) ≡ false
  few_from past [] few clear = ap (has_many_resets role limits heads) (append-nil past) ∙ few
  few_from past (s ∷ x) few clear =
      let both = none_of (stop_at role limits heads past s) (first_given (stop_at role limits heads) (past ++ s ∷ []) x) clear in
      let now = none_of (received_stop role limits heads past s) (if has_many_resets role limits heads (past ++ s ∷ []) then Some (Calm Resets) else None) both.0 in
      sym (ap (has_many_resets role limits heads) (append_assoc past (s ∷ []) x)) ∙ few_from (past ++ s ∷ []) x (unset (has_many_resets role limits heads (past ++ s ∷ [])) now.1) both.1

  count_push : (test : List Step → Step → Bool) (x : List Step) (s : Step) → count_steps test (x ++ s ∷ []) ≡ count_steps test x + (if test x s then 1 else 0)
  count_push test x s =
      ap length (collect_push (λ (past : List Step) (t : Step). if test past t then t ∷ [] else []) x s)
      ∙ length-append (collect (λ (past : List Step) (t : Step). if test past t then t ∷ [] else []) [] x) (if test x s then s ∷ [] else []) ∙ ap (λ (n : ℕ). count_steps test x + n) (one (test x s))
    where
      one : (b : Bool) → length (if b then s ∷ [] else []) ≡ (if b then 1 else 0)
      one true = refl
      one false = refl

  still_few : (ends more cuts later : ℕ) → nat_lt (1000 + ends) cuts ≡ false → ends ≤ more → later ≡ cuts → nat_lt (1000 + more) later ≡ false
  still_few ends more cuts later few le e = grind (arith, nat_tests)

  record StaysClear (x y : List Step) : Type 0 where
    pub clear : stop_of role limits heads y ≡ None
    pub same : events role limits heads y ≡ events role limits heads x

  one_stays_clear : (x : List Step) (f : Frame) → is_rst_stream f ≡ false → stop_of role limits heads x ≡ None → StaysClear x (x ++ Sent f ∷ [])
  one_stays_clear x f no_reset clear =
      let few : has_many_resets role limits heads x ≡ false = few_from [] x refl clear in
      let no_cut : cuts_request role limits heads x (Sent f) ≡ false = and_left (is_rst_stream f && is_begun role x (stream_of f)) _ (and_left (is_rst_stream f) (is_begun role x (stream_of f)) no_reset) in
      let cuts : count_steps (cuts_request role limits heads) (x ++ Sent f ∷ []) ≡ count_steps (cuts_request role limits heads) x =
      count_push (cuts_request role limits heads) x (Sent f) ∙ ap (λ (b : Bool). count_steps (cuts_request role limits heads) x + (if b then 1 else 0)) no_cut ∙ plus_zero (count_steps (cuts_request role limits heads) x) in
      let ends : count_steps (ends_call limits heads role) x ≤ count_steps (ends_call limits heads role) (x ++ Sent f ∷ []) = omega (arith, count_push (ends_call limits heads role) x (Sent f)) in
      let calm : has_many_resets role limits heads (x ++ Sent f ∷ []) ≡ false =
      still_few (count_steps (ends_call limits heads role) x) (count_steps (ends_call limits heads role) (x ++ Sent f ∷ [])) (count_steps (cuts_request role limits heads) x)
      (count_steps (cuts_request role limits heads) (x ++ Sent f ∷ [])) few ends cuts in
      let both = events_go_on role limits heads x (Sent f) clear (ap (λ (b : Bool). if b then Some (Calm Resets) else None) calm) in
      record { clear = both.0; same = both.1 ∙ append-nil (events role limits heads x) }

  pub stays_clear : (x : List Step) (fs : List Frame) → ResetNone fs → stop_of role limits heads x ≡ None → stop_of role limits heads (x ++ map Sent fs) ≡ None
  stays_clear x [] none clear = ap (stop_of role limits heads) (append-nil x) ∙ clear
  stays_clear x (f ∷ fs) (no_reset, others) clear =
      sym (ap (stop_of role limits heads) (append_assoc x (Sent f ∷ []) (map Sent fs))) ∙ stays_clear (x ++ Sent f ∷ []) fs others (one_stays_clear x f no_reset clear).clear

  -- and give no event
  pub same_events : (x : List Step) (fs : List Frame) → ResetNone fs → stop_of role limits heads x ≡ None → events role limits heads (x ++ map Sent fs) ≡ events role limits heads x
  same_events x [] none clear = ap (events role limits heads) (append-nil x)
  same_events x (f ∷ fs) (no_reset, others) clear =
      let one : StaysClear x (x ++ Sent f ∷ []) = one_stays_clear x f no_reset clear in
      sym (ap (events role limits heads) (append_assoc x (Sent f ∷ []) (map Sent fs))) ∙ same_events (x ++ Sent f ∷ []) fs others one.clear ∙ one.same
