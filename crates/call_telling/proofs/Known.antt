-- What holds of calls goes on where more header blocks are known, and where a frame is received.
use Rattle.std.proofs.Common.{◌≡◌, ◌⊎◌, ℕ, List, [], ◌∷◌, ◌++◌, None, refl, sym, ap, subst, ◌∙◌, inl, inr, append_assoc}
use Rattle.std.specs.List.{Contains}
use Rattle.std.specs.Option.{option_or}
use Rattle.std.proofs.lemmas.List.{append-nil}
use Rattle.std.proofs.lemmas.List.Folds.{list_any-append}
use Rattle.h2_frames.specs.declared.frame.Frame.{Frame}
use Rattle.h2_frames.specs.declared.frame.Frame.TheVariants.{Content}
use Rattle.h2_exchange.specs.declared.limits.H2Limits.{H2Limits}
use Rattle.h2_exchange.specs.declared.role.Role.{Role}
use Rattle.h2_exchange.specs.declared.role.Role.TheVariants.{Client}
use Rattle.h2_exchange.specs.Content.{Outcome}
use Rattle.h2_exchange.specs.Events.{Event}
use Rattle.h2_exchange.specs.Exchange.{Step, Received, Sent}
use Rattle.h2_exchange.specs.Frames.{stream_of}
use Rattle.h2_exchange.specs.Outcomes.{AreEnough}
use Rattle.h2_exchange.specs.Outgoing.{IsErrorReset}
use Rattle.h2_exchange.specs.Stops.{stop_at, stop_of}
use Rattle.h2_exchange.specs.Streams.{begins, begun, is_begun}
use Rattle.h2_exchange.proofs.Heads.{enough_front, error_same, later_blocks_change_nothing, or_left, or_right, passed_front, passed_step}
use Rattle.h2_exchange.proofs.Looking.{given_more, or_nothing}
use Rattle.h2_exchange.proofs.Places.{first_true, neither}
use Rattle.h2_exchange.proofs.Steps.{begun_list_push, begun_push, over_stays, sent_received}
use Rattle.grpc_stream.specs.CallTrace.{CallTrace}
use Rattle.call_hearing.specs.Listening.{has_event, is_on}
use Rattle.call_hearing.proofs.Silent.{others_are_silent}
use Rattle.call_standing.specs.Standing.{AreUnpadded, IsGone, IsSilent, OnlyTheseReset}
use Rattle.call_standing.proofs.Pushed.{last_or}
use Rattle.call_telling.proofs.Beside.{IsBeside, gone_on}

-- nothing stopped the exchange before a frame that doesn't stop it, nor does the frame
pub clear_parts : (role : Role) (limits : H2Limits) (heads : List Outcome) (x : List Step) (s : Step) → stop_of role limits heads (x ++ s ∷ []) ≡ None →
    (stop_of role limits heads x ≡ None) × (stop_at role limits heads x s ≡ None)
clear_parts role limits heads x s clear =
    let both : option_or (stop_of role limits heads x) (option_or (stop_at role limits heads x s) None) ≡ None = sym (given_more (stop_at role limits heads) [] x (s ∷ [])) ∙ clear in
    let later : option_or (stop_at role limits heads x s) None ≡ None = or_right (stop_of role limits heads x) (option_or (stop_at role limits heads x s) None) both in
    (or_left (stop_of role limits heads x) (option_or (stop_at role limits heads x s) None) both, or_left (stop_at role limits heads x s) None later)

-- ---- more header blocks

module _ (role : Role) (limits : H2Limits) (heads more : List Outcome) (past : List Step) (k : AreEnough role limits heads past) where
  reset_known : (f : Frame) → IsErrorReset role limits heads past f → IsErrorReset role limits (heads ++ more) past f
  reset_known f (before, g, why, split, clear, error, text) =
      let enough : AreEnough role limits heads (before ++ Received g ∷ []) = subst (AreEnough role limits heads) split k in
      let clear_too : stop_of role limits heads (before ++ Received g ∷ []) ≡ None = sym (ap (stop_of role limits heads) split) ∙ clear in
      let same = error_same role limits heads more before g enough (passed_front role limits heads more before (Received g ∷ []) (enough, clear_too)).1
      (passed_step role limits heads more before (Received g) (enough, clear_too)) in
      (before, g, why, split, (later_blocks_change_nothing.looked_at role limits heads more past k).0 ∙ clear, same ∙ error, text)

pub heads_beside : (t : CallTrace) (more : List Outcome) → AreEnough t.connection_trace.role t.connection_trace.limits t.connection_trace.heads t.connection_trace.frames → OnlyTheseReset t → AreUnpadded t →
    IsBeside t (t.connection_trace.heads ++ more) t.connection_trace.frames t.resets
heads_beside t more k only unpadded = record {
  sent_is = refl;
  begun_on = λ id e. e;
  client_is = λ id. refl;
  list_is = refl;
  over_on = λ id e. e;
  silent_on = λ id h. (
    h.silent.0,
    (later_blocks_change_nothing.looked_at t.connection_trace.role t.connection_trace.limits t.connection_trace.heads more t.connection_trace.frames k).1 ∙ h.silent.1,
    h.silent.2,
  );
  only_these = λ past behind f split rst. by past behind f split (only past behind f split rst);
  none_padded = unpadded;
}
  where
    by : (past behind : List Step) (f : Frame) → t.connection_trace.frames ≡ past ++ Sent f ∷ behind →
        IsErrorReset t.connection_trace.role t.connection_trace.limits t.connection_trace.heads past f ⊎ Contains t.resets (stream_of f) →
        IsErrorReset t.connection_trace.role t.connection_trace.limits (t.connection_trace.heads ++ more) past f ⊎ Contains t.resets (stream_of f)
    by past behind f split (inl reset) =
        let front : AreEnough t.connection_trace.role t.connection_trace.limits t.connection_trace.heads past =
        enough_front t.connection_trace.role t.connection_trace.limits t.connection_trace.heads more past (Sent f ∷ behind)
        (subst (AreEnough t.connection_trace.role t.connection_trace.limits t.connection_trace.heads) split k) in
        inl (reset_known t.connection_trace.role t.connection_trace.limits t.connection_trace.heads more past front f reset)
    by past behind f split (inr asked) = inr asked

-- ---- one frame more

module _ (t : CallTrace) (f : Frame) where
  abbrev pub frames_now : List Step
  frames_now = t.connection_trace.frames ++ Received f ∷ []

  client_same : (id : ℕ) → is_begun Client frames_now id ≡ is_begun Client t.connection_trace.frames id
  client_same id = begun_push Client t.connection_trace.frames (Received f) id ∙ or_nothing (is_begun Client t.connection_trace.frames id)

  list_same : begun Client frames_now ≡ begun Client t.connection_trace.frames
  list_same = begun_list_push Client t.connection_trace.frames (Received f) ∙ append-nil (begun Client t.connection_trace.frames)

  silent_more : stop_of t.connection_trace.role t.connection_trace.limits t.connection_trace.heads t.connection_trace.frames ≡ None → (id : ℕ) → IsGone t id →
      IsSilent (gone_on t t.connection_trace.heads frames_now t.resets).connection_trace id
  silent_more clear id h =
      let more = others_are_silent.over t.connection_trace.role t.connection_trace.limits t.connection_trace.heads t.connection_trace.frames (Received f ∷ []) id clear h.begun h.over in (
        h.silent.0 ++ more.0,
        more.1 ∙ ap (λ (es : List Event). es ++ more.0) h.silent.1 ∙ append_assoc t.connection_trace.given h.silent.0 more.0,
        list_any-append (is_on id) h.silent.0 more.0 ∙ neither (has_event h.silent.0 id) (has_event more.0 id) h.silent.2 more.2,
      )

  -- a sent frame stands before it
  sent_before : (past behind : List Step) (g : Frame) → frames_now ≡ past ++ Sent g ∷ behind → (more : List Step) × (t.connection_trace.frames ≡ past ++ Sent g ∷ more)
  sent_before past behind g split = by (last_or t.connection_trace.frames past behind (Received f) (Sent g) split)
    where
      by : ((past ≡ t.connection_trace.frames) × (Sent g ≡ Received f)) ⊎ ((more : List Step) × (t.connection_trace.frames ≡ past ++ Sent g ∷ more)) →
          (more : List Step) × (t.connection_trace.frames ≡ past ++ Sent g ∷ more)
      by (inl (at, same)) = absurd cc
      by (inr there) = there

  pub received_beside : stop_of t.connection_trace.role t.connection_trace.limits t.connection_trace.heads t.connection_trace.frames ≡ None → OnlyTheseReset t → AreUnpadded t →
      IsBeside t t.connection_trace.heads frames_now t.resets
  received_beside clear only unpadded = record {
    sent_is = sent_received t.connection_trace.frames f;
    begun_on = λ id e.
        begun_push t.connection_trace.role t.connection_trace.frames (Received f) id
        ∙ first_true (is_begun t.connection_trace.role t.connection_trace.frames id) (begins t.connection_trace.role id t.connection_trace.frames (Received f)) e;
    client_is = client_same;
    list_is = list_same;
    over_on = λ id e. over_stays t.connection_trace.frames (Received f ∷ []) id e;
    silent_on = silent_more clear;
    only_these = λ past behind g split rst. let there = sent_before past behind g split in only past there.0 g there.1 rst;
    none_padded = λ past behind b split. let there = sent_before past behind (Content b) split in unpadded past there.0 b there.1;
  }
