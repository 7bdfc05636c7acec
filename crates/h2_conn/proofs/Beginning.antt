-- A new connection stands for its first frames.
use Rattle.std.proofs.Common.{◌≡◌, ℕ, ◌+◌, ◌-◌, ◌<◌, ◌≤◌, ◌^◌, true, false, List, [], ◌∷◌, ◌++◌, length, None, refl, sym, ap, subst, ◌∙◌, arith, inl}
use Rattle.std.proofs.lemmas.List.{append-nil, append_assoc}
use Rattle.std.proofs.lemmas.List.Elements.{All-nil}
use Rattle.h2_frames.specs.declared.frame.Frame.{Frame}
use Rattle.h2_frames.specs.declared.frame.Frame.TheVariants.{Settings, WindowUpdate}
use Rattle.h2_frames.specs.declared.frame.FrameBody.{FrameBody}
use Rattle.h2_frames.specs.Layout.{frame_text}
use Rattle.h2_frames.specs.Reader.{Reader}
use Rattle.h2_frames.specs.Stream as bytes
use Rattle.h2_frames.specs.Stream.{place_after}
use Rattle.hpack_tables.specs.Decoder.{Decoder}
use Rattle.hpack_tables.specs.Writing.{Encoder, fresh}
use Rattle.h2_exchange.specs.declared.limits.H2Limits.{H2Limits}
use Rattle.h2_exchange.specs.declared.role.Role.{Role}
use Rattle.h2_exchange.specs.declared.role.Role.TheVariants.{Client, Server}
use Rattle.h2_exchange.specs.Compression.{IsWritable}
use Rattle.h2_exchange.specs.Exchange.{Step, Sent, Received, sent}
use Rattle.h2_exchange.specs.Order.{own_preface, peer_preface}
use Rattle.h2_exchange.specs.Sending.{last_begun, own_settings, first_text}
use Rattle.h2_exchange.specs.Stops.{before_stop, ends_call}
use Rattle.h2_exchange.specs.Streams.{is_live}
use Rattle.h2_exchange.specs.Windows.{granted_on}
use Rattle.h2_exchange.proofs.Steps.{window_sums_grow}
use Rattle.h2_streams.specs.Set.{Set, credited}
use Rattle.h2_streams.specs.Set as streams
use Rattle.h2_streams.specs.Stands.{StandsFor}
use Rattle.h2_streams.proofs.Credits.{credits_all}
use Rattle.h2_streams.proofs.Quiet.{control_frames_change_nothing}
use Rattle.http_connection.specs.ConnectionTrace.{ConnectionTrace, IsNew, begun, style_of}
use Rattle.h2_conn.specs.State.{State}
use Rattle.h2_conn.specs.Standing.{Kept, Going, Stands}
use Rattle.h2_conn.specs.Texts.{body}
use Rattle.h2_conn.specs.Watching.{Watch, IsWatched}
use Rattle.h2_conn.proofs.Halves.{block_watched}
use Rattle.h2_conn.proofs.Lives.{going_push}
use Rattle.h2_conn.proofs.Sounds.{sends_kept, one_more}
use Rattle.h2_conn.proofs.Updates.{Updated, increments, update_body, updates}

settings_small : (role : Role) (limits : H2Limits) → length (own_settings role limits) ≤ 16384
settings_small Server limits = let e : length (own_settings Server limits) ≡ 18 = refl in omega (arith, e)
settings_small Client limits = let e : length (own_settings Client limits) ≡ 12 = refl in omega (arith, e)

abbrev settings_body : Role → H2Limits → FrameBody
settings_body role limits = body 0 0 (own_settings role limits) (omega arith) (settings_small role limits)

abbrev watch : Watch
watch = record { left = 1000; is_passed = false; asked = [] }

-- a connection that has sent so much
abbrev pub new_state : Role → H2Limits → Reader → ℕ → Set → Decoder → List ℕ → State
new_state role limits reader place set decoder output = record {
  role = role;
  limits = limits;
  reader = reader;
  place = place;
  set = set;
  decoder = decoder;
  encoder = fresh (style_of role);
  output = output;
  block = None;
  ended = None;
  is_holding = false;
  watch = record { left = 1000; is_passed = false; asked = [] };
  refusal = None;
}

zero_fits : 0 < 2 ^ 31
zero_fits = omega arith

no_steps : (past behind : List Step) (s : Step) → [] ≡ past ++ s ∷ behind → ⊥
no_steps [] behind s e = absurd cc
no_steps (p ∷ past) behind s e = absurd cc

kept_none : (role : Role) (limits : H2Limits) → Kept (begun role limits []) (own_preface role) (fresh (style_of role))
kept_none role limits = record {
  front = tt;
  within = λ some. absurd (omega (arith, some));
  text = append-nil (own_preface role);
  read = record { read = tt; enough = λ past behind f b e. absurd (no_steps past behind (Received f) e) };
  spelled = (refl, refl);
  writable = All-nil IsWritable;
  closed = refl;
  given = ([], refl);
  placed = λ past behind f e. absurd (no_steps past behind (Sent f) e);
  acknowledged = ([], refl);
  windows = λ past behind b e. absurd (no_steps past behind _ e);
}

watched_none : (role : Role) (limits : H2Limits) → IsWatched role limits [] [] (record { left = 1000; is_passed = false; asked = [] })
watched_none Server limits = record { counts = λ p. refl; requests = λ id live. absurd cc; idle = λ id none. (refl, refl) }
watched_none Client limits = record { counts = λ p. refl; requests = λ id live. absurd cc; idle = λ id none. (refl, refl) }

module _ (role : Role) (limits : H2Limits) (reader : Reader) (place : ℕ) (set : Set) (decoder : Decoder) (reads : bytes.Stands (peer_preface role) reader [] []) (goes_on : reader.refusal ≡ None)
    (place_is : place ≡ place_after (peer_preface role) []) (decodes : decoder ≡ record { entries = []; max = 4096; limit = 4096; refusal = None }) (stands : StandsFor (streams.fresh role limits) []) where
  abbrev c0 : ConnectionTrace
  c0 = begun role limits []

  abbrev s0 : State
  s0 = new_state role limits reader place (streams.fresh role limits) decoder (own_preface role)

  going_none : Going s0 c0 [] []
  going_none = record {
    reader_goes = goes_on;
    reads = reads;
    place_is = place_is;
    set_is = stands;
    set_role = refl;
    set_limits = refl;
    decodes = record {
      alive = ap (λ (d : Decoder). d.refusal) decodes;
      limit = ap (λ (d : Decoder). d.limit) decodes;
      read = (ap (λ (d : Decoder). d.entries) decodes, ap (λ (d : Decoder). d.max) decodes);
    };
    block_is = refl;
    given_is = refl;
    acknowledged = refl;
    stays = refl;
    watched = watched_none role limits;
    stop_is = refl;
    last_is = last_none role;
  }
    where
      last_none : (r : Role) → last_begun r (before_stop role limits [] []) ≡ last_begun r []
      last_none Server = refl
      last_none Client = refl

  abbrev f1 : Frame
  f1 = Settings (settings_body role limits)

  no_end : (r : Role) → ends_call limits [] r [] (Sent f1) ≡ false
  no_end Server = refl
  no_end Client = refl

  kept_one : Kept (one_more f1 c0) (own_preface role ++ frame_text f1) (fresh (style_of role))
  kept_one = sends_kept c0 (own_preface role) (fresh (style_of role)) f1 (kept_none role limits) refl refl refl ([], refl) (λ b e. absurd cc)

  abbrev s1 : State
  s1 = new_state role limits reader place (streams.fresh role limits) decoder (own_preface role ++ frame_text f1)

  going_one : Going s1 (one_more f1 c0) [] []
  going_one =
      let watch = block_watched role limits [] [] f1 false refl refl (no_end role) (record { left = 1000; is_passed = false; asked = [] }) refl (watched_none role limits) in
      going_push s0 c0 f1 (frame_text f1) (streams.fresh role limits) (record { left = 1000; is_passed = false; asked = [] }) [] [] [] going_none
      (control_frames_change_nothing (streams.fresh role limits) [] (settings_body role limits) f1 (inl refl) stands) refl refl refl refl watch.0 watch.1

  abbrev more : ℕ
  more = limits.window - 65535

  more_small : more < 2 ^ 31
  more_small = omega (arith, limits.window_in_range)

  updated : Updated s1 (one_more f1 c0) (WindowUpdate (update_body 0 more zero_fits)) (credited more (streams.fresh role limits)) [] [] (fresh (style_of role))
  updated = updates s1 (one_more f1 c0) (update_body 0 more zero_fits) (credited more (streams.fresh role limits)) [] [] (fresh (style_of role)) kept_one going_one
      (credits_all (streams.fresh role limits) (Sent f1 ∷ []) more (update_body 0 more zero_fits) going_one.set_is refl (increments 0 more zero_fits more_small)) refl refl

  abbrev f2 : Frame
  f2 = WindowUpdate (update_body 0 more zero_fits)

  none_live : (r : Role) (id : ℕ) → is_live r (Sent f1 ∷ Sent f2 ∷ []) id ≡ false
  none_live Server id = refl
  none_live Client id = refl

  granted : granted_on 0 (sent (Sent f1 ∷ Sent f2 ∷ [])) ≡ more
  granted =
      window_sums_grow.granted_push 0 (f1 ∷ []) f2 ∙ ap (λ (m : ℕ). granted_on 0 (f1 ∷ []) + m) (increments 0 more zero_fits more_small) ∙ omega arith

  abbrev s2 : State
  s2 = new_state role limits reader place (credited more (streams.fresh role limits)) decoder ((own_preface role ++ frame_text f1) ++ frame_text f2)

  stands_two : Stands s2 (begun role limits (f1 ∷ f2 ∷ []))
  stands_two = record {
    role_is = refl;
    limits_are = refl;
    refusal_is = refl;
    holding_is = refl;
    last = fresh (style_of role);
    encoder_is = λ e. refl;
    kept = updated.kept;
    resets = λ past behind f why e. absurd (none_received past behind f e);
    credited = λ e. record {
      whole = omega (arith, granted, limits.window_is_raised);
      streams = λ id live. absurd (let t : true ≡ false = sym live ∙ none_live role id in cc);
    };
    goes = λ e. updated.goes;
  }
    where
      none_received : (past behind : List Step) (f : Frame) → Sent f1 ∷ Sent f2 ∷ [] ≡ past ++ Received f ∷ behind → ⊥
      none_received [] behind f e = absurd cc
      none_received (p ∷ []) behind f e = absurd cc
      none_received (p ∷ q ∷ []) behind f e = absurd cc
      none_received (p ∷ q ∷ r ∷ past) behind f e = absurd cc

  pub is_new : (t : State) → t ≡ new_state role limits reader place (credited more (streams.fresh role limits)) decoder (own_preface role ++ first_text role limits) → IsNew role limits (Stands t)
  is_new t e = (
    f1 ∷ f2 ∷ [],
    ap (λ (l : List ℕ). frame_text f1 ++ l) (append-nil (frame_text f2)),
    subst (λ (u : State). Stands u (begun role limits (f1 ∷ f2 ∷ []))) (sym e)
        (subst (λ (out : List ℕ). Stands (new_state role limits reader place (credited more (streams.fresh role limits)) decoder out) (begun role limits (f1 ∷ f2 ∷ [])))
        (append_assoc (own_preface role) (frame_text f1) (frame_text f2)) stands_two),
  )

abbrev made : Role → H2Limits → Reader → ℕ → Set → Decoder → Encoder → List ℕ → Watch → State
made role limits reader place set decoder encoder output watch = record (new_state role limits reader place set decoder output) { encoder = encoder; watch = watch }

pub begins_new : (role : Role) (limits : H2Limits) (reader : Reader) (place : ℕ) (set : Set) (decoder : Decoder) (encoder : Encoder) (output : List ℕ) (watch : Watch) → bytes.Stands (peer_preface role) reader [] [] → reader.refusal ≡ None →
    place ≡ place_after (peer_preface role) [] → decoder ≡ record { entries = []; max = 4096; limit = 4096; refusal = None } → StandsFor (streams.fresh role limits) [] → set ≡ credited (limits.window - 65535) (streams.fresh role limits) →
    encoder ≡ fresh (style_of role) → output ≡ own_preface role ++ first_text role limits → watch ≡ record { left = 1000; is_passed = false; asked = [] } →
    IsNew role limits (Stands (record (new_state role limits reader place set decoder output) { encoder = encoder; watch = watch }))
begins_new role limits reader place set decoder encoder output watch reads goes_on place_is decodes stands set_is encoder_is output_is watch_is =
    is_new role limits reader place set decoder reads goes_on place_is decodes stands (made role limits reader place set decoder encoder output watch)
    (ap (λ (x : Set). made role limits reader place x decoder encoder output watch) set_is
    ∙ ap (λ (e : Encoder). made role limits reader place (credited (limits.window - 65535) (streams.fresh role limits)) decoder e output watch) encoder_is
    ∙ ap (λ (o : List ℕ). made role limits reader place (credited (limits.window - 65535) (streams.fresh role limits)) decoder (fresh (style_of role)) o watch) output_is
    ∙ ap (λ (w : Watch). made role limits reader place (credited (limits.window - 65535) (streams.fresh role limits)) decoder (fresh (style_of role)) (own_preface role ++ first_text role limits) w) watch_is)
