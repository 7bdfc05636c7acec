-- A new server's connection agrees with an account in which nothing was done.
use Rattle.std.proofs.Common.{◌≡◌, inl, inr, ℕ, ◌-◌, true, map, List, [], ◌∷◌, ◌++◌, drop, length, Option, None, refl, sym, ap, subst, ◌∙◌, arith, append-nil}
use Rattle.std.specs.List.{flat_map}
use Rattle.std.proofs.lemmas.List.Elements.{All-nil}
use Rattle.grpc_heads.specs.CallEnd.{CallEnd, compressed, method_by, too_long, truncated}
use Rattle.grpc_heads.specs.Heads.{head_of}
use Rattle.h2_frames.specs.declared.frame.Frame.{Frame}
use Rattle.h2_frames.specs.declared.frame.Frame.TheVariants.{Settings}
use Rattle.h2_frames.specs.Layout.{frame_text}
use Rattle.h2_frames.specs.Stream.{Reads}
use Rattle.h2_exchange.specs.Order.{peer_preface}
use Rattle.h2_exchange.specs.declared.limits.H2Limits.{H2Limits}
use Rattle.h2_exchange.specs.declared.role.Role.TheVariants.{Server}
use Rattle.h2_exchange.specs.Calls.{calls}
use Rattle.h2_exchange.specs.Events as happened
use Rattle.h2_exchange.specs.Exchange.{Sent}
use Rattle.h2_exchange.specs.Outgoing.{HasPlace, SendsOnly, opens, credits}
use Rattle.h2_exchange.specs.Sending.{first_text, own_settings, update_text}
use Rattle.h2_exchange.specs.StreamParts.{Item}
use Rattle.h2_exchange.specs.Stops.{stop_of}
use Rattle.h2_exchange.proofs.Sending.{only_these_are_sent}
use Rattle.http_connection.specs.ConnectionTrace.{begun}
use Rattle.http_connection.proofs.Unheard.{all_sent, no_events, no_received, none_received}
use Rattle.grpc_stream.specs.CallTrace.{CallTrace, Asked, IsSoundCallTrace, fresh, suits}
use Rattle.grpc_stream.proofs.Granted.{body, same_frames, update, zero_small}
use Rattle.call_answers.specs.declared.orders.Setting.{Setting}
use Rattle.call_orders.specs.Calls.{NotBegun, standing}
use Rattle.call_orders.specs.Actions.{AreActions, calls_in, events_in}
use Rattle.session_engine.specs.declared.open_calls.OpenCall.{OpenCall}
use Rattle.session_engine.specs.Laws.{AreOpen}
use Rattle.session_engine.specs.Queries.{OpenCallsView, call_on}
use Rattle.session_engine.specs.Stands.{Stands}
use Rattle.server_turns.specs.Serving.{IsServerLimits, none_asked}
use Rattle.server_account.specs.Agreeing.{Agrees, AreHandled, IsSettled, none_left}
use Rattle.server_account.proofs.Quiet.{stays_clear}

module _ (limits : H2Limits) where
  abbrev settings : Frame
  settings = Settings (body 0 0 (own_settings Server limits) (omega arith) (omega arith))

  abbrev raise : Frame
  raise = update 0 (limits.window - 65535) zero_small

  first_are : (first : List Frame) → flat_map frame_text first ≡ first_text Server limits → first ≡ settings ∷ raise ∷ []
  first_are first e =
      same_frames first (settings ∷ raise ∷ []) (e ∙ ap (λ (l : List ℕ). frame_text settings ++ l) (sym (append-nil (update_text 0 (limits.window - 65535)))))

  nothing_sent : (bytes rest : List ℕ) → SendsOnly Server limits [] none_asked bytes rest []
  nothing_sent bytes rest [] behind f e = absurd cc
  nothing_sent bytes rest (s ∷ past) behind f e = absurd cc

  sends_first : (bytes rest : List ℕ) → limits.window ≡ 1048576 → HasPlace [] settings → HasPlace (Sent settings ∷ []) raise →
      SendsOnly Server limits [] none_asked bytes rest (Sent settings ∷ Sent raise ∷ [])
  sends_first bytes rest window first second =
      (only_these_are_sent Server limits [] none_asked bytes rest (Sent settings ∷ [])).sent raise
      (credits (limits.window - 65535) refl (omega (arith, window)) (omega (arith, window))) second
      ((only_these_are_sent Server limits [] none_asked bytes rest []).sent settings (opens refl refl) first (nothing_sent bytes rest))

none_open : (s : Setting) (open_calls : OpenCallsView) → ((id : ℕ) → call_on open_calls id ≡ None) → AreOpen s open_calls []
unfolding standing AreActions
none_open s open_calls none = record {
  stands = λ id. subst (λ (o : Option OpenCall). Stands s o NotBegun) (sym (none id)) (inl refl);
  unended = λ id. inr refl;
  each = tt;
}

module _ (s : Setting) (limits : H2Limits) (first : List Frame) (output : List ℕ) (open_calls : OpenCallsView) (is : IsServerLimits limits) (text : flat_map frame_text first ≡ first_text Server limits) where
  abbrev new : CallTrace
  new = fresh (begun Server limits first) s.numbering

  frames_are : map Sent first ≡ Sent (settings limits) ∷ Sent (raise limits) ∷ []
  frames_are = ap (map Sent) (first_are limits first text)

  sends : IsSoundCallTrace new output → (bytes rest : List ℕ) → SendsOnly Server limits [] none_asked bytes rest (map Sent first)
  sends sound bytes rest =
      subst (SendsOnly Server limits [] none_asked bytes rest) (sym frames_are)
      (sends_first limits bytes rest is.window (sound.connection_trace.placed [] (Sent (raise limits) ∷ []) (settings limits) frames_are)
      (sound.connection_trace.placed (Sent (settings limits) ∷ []) [] (raise limits) frames_are))

  handled : ((id : ℕ) → call_on open_calls id ≡ None) → AreHandled s new open_calls [] [] none_left
  unfolding standing calls_in events_in
  handled none = record { open_now = none_open s open_calls none; reported = refl; did = refl; running = refl; taken = λ id. inl refl }

  pub starts : IsSoundCallTrace new output → ((id : ℕ) → call_on open_calls id ≡ None) → Agrees s new output open_calls [] [] [] none_left
  starts sound none = record {
    server = record {
      sound = sound;
      role = refl;
      numbers = refl;
      limits = is;
      first = ([], ap (flat_map frame_text) (all_sent first) ∙ text ∙ sym (append-nil (first_text Server limits)));
      sends = λ rest _. sends sound [] rest;
      suited = λ id. All-nil (λ (what : Item CallEnd). suits Server what ≡ true);
    };
    told = record { fed = refl; dropped = refl; order = λ early late before behind f split x. absurd (no_received first before behind f x) };
    handled = handled none;
  }

  pub settles : IsSettled new []
  settles = record {
    all = sym (ap (λ (es : List happened.Event). map Asked (calls (λ fields. method_by (head_of fields)) compressed too_long truncated es)) (no_events Server limits [] first));
    alive = refl;
    unstopped = ap (stop_of Server limits []) frames_are ∙ stays_clear Server limits [] [] (settings limits ∷ raise limits ∷ []) (refl, (refl, tt)) refl;
    whole = record { follows = refl; reads = subst (λ (fs : List Frame). Reads (drop (length (peer_preface Server)) []) fs []) (sym (none_received first)) refl; partial = inl (omega arith) };
  }
