-- A connection that takes a frame of control and answers it.
use Rattle.std.proofs.Common.{◌≡◌, ℕ, ◌+◌, Bool, true, false, ◌&&◌, List, [], ◌∷◌, ◌++◌, length, Option, Some, None, refl, sym, ap, subst, ◌∙◌, arith}
use Rattle.std.specs.Prelude.{not, option_map, sum_by, ◌==◌, if◌then◌else◌}
use Rattle.std.specs.Option.{option_or}
use Rattle.std.specs.List.{flat_map}
use Rattle.std.proofs.lemmas.List.{append-nil, append_assoc}
use Rattle.std.proofs.lemmas.List.Sums.{sum_by_push}
use Rattle.h2_frames.specs.declared.code.ErrorCode.{ErrorCode}
use Rattle.h2_frames.specs.declared.code.TheConstants.ErrorCode as code
use Rattle.h2_frames.specs.declared.frame.Frame.{Frame}
use Rattle.h2_frames.specs.declared.frame.Frame.TheVariants as kind
use Rattle.h2_frames.specs.declared.frame.FrameBody.{FrameBody}
use Rattle.h2_frames.specs.Layout.{frame_text, size_of}
use Rattle.h2_frames.specs.Stream.{place_after, place_at}
use Rattle.hpack_tables.specs.Writing.{Encoder}
use Rattle.h2_exchange.specs.declared.role.Role.{Role}
use Rattle.h2_exchange.specs.Blocks.{Block, blocks, open_block}
use Rattle.h2_exchange.specs.Compression.{limited_by}
use Rattle.h2_exchange.specs.Content.{Outcome, outcome_for, is_malformed, stream_error}
use Rattle.h2_exchange.specs.Events.{Event, GoneAway}
use Rattle.h2_exchange.specs.Exchange.{Step, Received, Sent, received, first_broken}
use Rattle.h2_exchange.specs.Frames.{stream_of, is_continuation, is_push_promise, is_goaway, has_ack, counted, last_stream_of, goaway_code_of}
use Rattle.h2_exchange.specs.Order.{peer_preface}
use Rattle.h2_exchange.specs.Rules.{frame_error, shape_error, breaks_start, breaks_block_on, breaks_number, breaks_length, breaks_padding}
use Rattle.h2_exchange.specs.Sending.{ack_for, credit_text, ResetsErrors}
use Rattle.h2_exchange.specs.StreamErrors.{stream_error_of}
use Rattle.h2_exchange.specs.Stops.{stop_of}
use Rattle.h2_exchange.specs.Streams.{of_client, highest}
use Rattle.h2_streams.specs.Set.{Set}
use Rattle.h2_streams.specs.Stands as streams
use Rattle.http_connection.specs.Answers.{AreReply, AreReplyBy, after}
use Rattle.http_connection.specs.Answers as answer
use Rattle.http_connection.specs.ConnectionTrace.{ConnectionTrace}
use Rattle.h2_conn.specs.Hears.{Taken}
use Rattle.h2_conn.specs.State.{State}
use Rattle.h2_conn.specs.Standing.{Kept, Going, Stands, Decodes, ends_of, HasCredit}
use Rattle.h2_conn.specs.Steps.{plain_in, Waiting, text_or_none as text_or}
use Rattle.h2_conn.specs.Watching.{IsWatched, stop_by}
use Rattle.h2_conn.proofs.Acks.{IsAck, acks_go, settings_ack, settings_body, ping_ack, ping_body}
use Rattle.h2_conn.proofs.Closing.{closes, told}
use Rattle.h2_conn.proofs.Further.{watched_known, resets_known}
use Rattle.h2_conn.proofs.Hearing.{heard, acks_of, known_by, hears_kept, hears_going}
use Rattle.h2_conn.proofs.Plain.{IsPlain, IsLoose, none_counted, none_completed, blocks_stay, still_closed, stop_none, events_are, watched, credited}
use Rattle.h2_conn.proofs.Sounds.{one_more}
use Rattle.h2_conn.proofs.Splits.{resets_heard, resets_push}

-- ---- outside a header block

pub first_none : {A : Type 0} (a b : Option A) → option_or a b ≡ None → a ≡ None
first_none None b e = refl
first_none (Some v) b e = absurd cc

pub third : (a b d e g h : Bool) (p q : ErrorCode) → first_broken ((a, p) ∷ (b, p) ∷ (d, p) ∷ (e, p) ∷ (g, q) ∷ (h, p) ∷ []) ≡ None → d ≡ false
third true b d e g h p q k = absurd cc
third false true d e g h p q k = absurd cc
third false false true e g h p q k = absurd cc
third false false false e g h p q k = refl

outside_by : (o : Option Block) (f : Frame) → is_continuation f ≡ false → breaks_block_on (option_map (λ (b : Block). b.stream) o) f ≡ false → o ≡ None
outside_by None f p e = refl
outside_by (Some b) f p e = let t : not (is_continuation f && stream_of f == b.stream) ≡ true = ap (λ (a : Bool). not (a && stream_of f == b.stream)) p in absurd cc

pub outside : (role : Role) (x : List Step) (f : Frame) → IsLoose f → frame_error role x f ≡ None → open_block (received x) ≡ None
outside role x f p e =
    let opened : Option ℕ = option_map (λ (b : Block). b.stream) (open_block (received x)) in
    let greatest = highest (of_client role x) in
    outside_by (open_block (received x)) f p.more
    (third (breaks_start x f) (is_push_promise f) (breaks_block_on opened f) (breaks_number role greatest f) (breaks_length greatest f) (breaks_padding f) code.PROTOCOL_ERROR code.FRAME_SIZE_ERROR
    (first_none (shape_error role (breaks_start x f) opened greatest f) _ e))

-- ---- what it asks for

pub data CarriesRequest (f : Frame) : Type 0 where
  nothing : ack_for f ≡ None → acks_of f ≡ [] → CarriesRequest f
  ack : (g : Frame) (b : FrameBody) → IsAck g b → ack_for f ≡ Some (frame_text g) → acks_of f ≡ frame_text g ∷ [] → CarriesRequest f

setting_asks : (b : FrameBody) (t : Bool) → has_ack (kind.Settings b) ≡ t → CarriesRequest (kind.Settings b)
setting_asks b true e = nothing (rw e refl) (rw e refl)
setting_asks b false e = ack (kind.Settings settings_body) settings_body settings_ack (rw e refl) (rw e refl)

ping_asks : (b : FrameBody) (t : Bool) → has_ack (kind.Ping b) ≡ t → CarriesRequest (kind.Ping b)
ping_asks b true e = nothing (rw e refl) (rw e refl)
ping_asks b false e = ack (kind.Ping (ping_body b.payload b.payload_in_range)) (ping_body b.payload b.payload_in_range) (ping_ack b.payload b.payload_in_range) (rw e refl) (rw e refl)

pub asks : (f : Frame) → CarriesRequest f
asks (kind.Content b) = nothing refl refl
asks (kind.Headers b) = nothing refl refl
asks (kind.Priority b) = nothing refl refl
asks (kind.RstStream b) = nothing refl refl
asks (kind.Settings b) = setting_asks b (has_ack (kind.Settings b)) refl
asks (kind.PushPromise b) = nothing refl refl
asks (kind.Ping b) = ping_asks b (has_ack (kind.Ping b)) refl
asks (kind.GoAway b) = nothing refl refl
asks (kind.WindowUpdate b) = nothing refl refl
asks (kind.Continuation b) = nothing refl refl
asks (kind.Unknown other b) = nothing refl refl

-- ---- its place

pub place_push : (due : List ℕ) (fs : List Frame) (f : Frame) (place : ℕ) → place ≡ place_after due fs → place_at (place + size_of f) ≡ place_after due (fs ++ f ∷ [])
place_push due fs f place e = ap (λ (n : ℕ). place_at (n + size_of f)) e ∙ joined (length due + sum_by size_of fs) (size_of f) ∙ ap place_at (more (length due) ∙ ap (λ (n : ℕ). length due + n) (sym (sum_by_push size_of fs f)))
  where
    joined : (n m : ℕ) → place_at (place_at n + m) ≡ place_at (n + m)
    joined n m = omega arith

    more : (n : ℕ) → n + sum_by size_of fs + size_of f ≡ n + (sum_by size_of fs + size_of f)
    more n = omega arith

-- ---- all of it

-- what it tells
abbrev pub tells : Frame → List Event
tells f = if is_goaway f then GoneAway (last_stream_of f) (goaway_code_of f) ∷ [] else []

no_credit : (role : Role) (x : List Step) (f : Frame) (b : Bool) → counted f ≡ 0 → (if b then [] else credit_text role x (stream_of f) (counted f)) ≡ []
no_credit role x f true e = refl
no_credit role x f false e = ap (λ (n : ℕ). credit_text role x (stream_of f) n) e

module _ (s : State) (c : ConnectionTrace) (f : Frame) (set : Set) (p : IsPlain f) (w : Waiting s c f) (set_is : streams.StandsFor set (c.frames ++ Received f ∷ [])) (set_role : set.role ≡ c.role) (set_limits : set.limits ≡ c.limits)
    (sound : frame_error c.role c.frames f ≡ None) (faultless : stream_error_of c.role c.limits c.frames f false ≡ None) where
  abbrev heads : List Outcome
  heads = c.heads ++ []

  opened : open_block (received c.frames) ≡ None
  opened = outside c.role c.frames f p.loose sound

  abbrev old : State
  old = record s { reader = w.before }

  a : Going old c [] []
  a = subst (λ (o : Option ℕ). Going old c (ends_of o) []) w.none_ended (w.stands.goes w.alive)

  clear : stop_of c.role c.limits c.heads c.frames ≡ None
  clear = a.stop_is ∙ ap stop_by w.unpassed

  no_fault : stream_error c.role c.limits heads c.frames f ≡ None
  no_fault = ap (λ (o : Option Block). stream_error_of c.role c.limits c.frames f (is_malformed c.role c.frames f (outcome_for heads (received c.frames) o))) (none_completed c.role c.limits heads c.frames f p.loose sound opened) ∙ faultless

  decodes : Decodes s.decoder (blocks (received c.frames ++ f ∷ [])) heads
  decodes = subst (λ (bs : List Block). Decodes s.decoder bs heads) (sym (blocks_stay c.role c.limits heads c.frames f p.loose sound opened)) (subst (λ (hs : List Outcome). Decodes s.decoder (blocks (received c.frames)) hs) (sym (append-nil c.heads)) a.decodes)

  known_watch : IsWatched c.role c.limits heads c.frames s.watch
  known_watch = watched_known c.role c.limits c.heads [] c.frames s.watch (w.stands.kept.read.enough, clear) a.watched

  went : Going (record s { place = place_at (s.place + size_of f); set = set; encoder = limited_by f s.encoder }) (heard f [] c) (tells f) (acks_of f)
  went =
      subst (λ (es : List Event). Going (record s { place = place_at (s.place + size_of f); set = set; encoder = limited_by f s.encoder }) (heard f [] c) es (acks_of f)) (events_are c.role c.limits heads c.frames f p sound opened no_fault)
      (hears_going old c f [] s.reader (place_at (s.place + size_of f)) set s.decoder (limited_by f s.encoder) s.block s.watch [] a w.stands.kept.read.enough clear w.reader_goes w.reads
      (place_push (peer_preface c.role) (received c.frames) f s.place a.place_is) set_is set_role set_limits decodes
      (a.block_is ∙ opened ∙ sym (still_closed c.role c.limits heads c.frames f p.loose sound opened))
      (stop_none c.role c.limits heads c.frames f p sound opened s.watch.left (known_watch.counts w.unpassed))
      (watched c.role c.limits heads c.frames f p sound opened s.watch no_fault known_watch) w.unpassed)

  kept : Kept (heard f [] c) s.output (limited_by f s.encoder)
  kept =
      subst (λ (e : Encoder). Kept (heard f [] c) s.output (limited_by f e)) (sym (w.stands.encoder_is w.alive))
      (hears_kept c s.output w.stands.last f [] s.reader w.stands.kept w.reads (known_by c.role c.limits heads (c.frames ++ Received f ∷ []) s.decoder went.decodes) (tells f, went.given_is))

  resets : ResetsErrors c.role c.limits heads (c.frames ++ Received f ∷ [])
  resets = resets_heard c.role c.limits heads c.frames f (resets_known c.role c.limits c.heads [] c.frames w.stands.kept.read.enough w.stands.resets)
      (λ why e q. absurd (let t : None ≡ Some why = sym no_fault ∙ q in cc))

  credits : HasCredit s.is_holding c.role c.limits (c.frames ++ Received f ∷ [])
  credits = credited c.role c.limits heads c.frames f p sound opened s.is_holding (w.stands.credited w.alive)

  stop_stays : stop_of c.role c.limits heads (c.frames ++ Received f ∷ []) ≡ None
  stop_stays = went.stop_is ∙ ap stop_by w.unpassed

  reply_by : (fs : List Frame) (o : Option (List ℕ)) → ack_for f ≡ o → flat_map frame_text fs ≡ text_or o → AreReplyBy None c.role c.is_holding c.frames f fs
  reply_by fs None o e = rw (o, no_credit c.role (c.frames ++ Received f ∷ []) f c.is_holding (none_counted f p.no_data)) e
  reply_by fs (Some text) o e = rw (o, no_credit c.role (c.frames ++ Received f ∷ []) f c.is_holding (none_counted f p.no_data)) (e ∙ sym (append-nil text))

  reply : (fs : List Frame) (o : Option (List ℕ)) → ack_for f ≡ o → flat_map frame_text fs ≡ text_or o → AreReply c.role c.limits c.is_holding heads c.frames f fs
  reply fs o e q = subst (λ (r : Option ErrorCode). AreReplyBy r c.role c.is_holding c.frames f fs) (sym no_fault) (reply_by fs o e q)

  abbrev now : State
  now = record s { place = place_at (s.place + size_of f); set = set; encoder = limited_by f s.encoder }

  ended : tells f ≡ tells f ++ ends_of s.ended
  ended = sym (append-nil (tells f)) ∙ ap (λ (o : Option ℕ). tells f ++ ends_of o) (sym w.none_ended)

  alive : c.refusal ≡ None
  alive = w.stands.refusal_is ∙ w.alive

  taken_by : CarriesRequest f → Taken (plain_in f (record s { set = set })) c (tells f)
  taken_by (nothing none no_acks) =
      let output : s.output ≡ s.output ++ text_or (ack_for f) = sym (append-nil s.output) ∙ ap (λ (o : Option (List ℕ)). s.output ++ text_or o) (sym none) in
      let g : Going now (heard f [] c) (tells f ++ ends_of s.ended) [] =
      subst (λ (es : List Event). Going now (heard f [] c) es []) ended (subst (λ (owed_credit : List (List ℕ)). Going now (heard f [] c) (tells f) owed_credit) no_acks went) in
      record {
        next = told (tells f) (heard f [] c);
        stands = subst (λ (o : List ℕ). Stands (record now { output = o }) (told (tells f) (heard f [] c))) output
            (closes now (heard f [] c) (tells f) w.stands.role_is w.stands.limits_are w.alive w.stands.holding_is kept g resets credits);
        goes = record {
          alive = alive;
          more = Received f ∷ [];
          outcomes = [];
          receives = answer.goes c.frames [] f [] stop_stays (reply [] None none refl) (answer.ends (c.frames ++ Received f ∷ []));
          goes_on = refl;
        };
      }
  taken_by (ack g b k some acks) =
      let output : s.output ++ frame_text g ≡ s.output ++ text_or (ack_for f) = ap (λ (o : Option (List ℕ)). s.output ++ text_or o) (sym some) in
      let acked = acks_go now (heard f [] c) g b (tells f) [] (limited_by f s.encoder) k kept (subst (λ (owed_credit : List (List ℕ)). Going now (heard f [] c) (tells f) owed_credit) acks went) in
      let on = record now { output = s.output ++ frame_text g } in
      let later : Going on (one_more g (heard f [] c)) (tells f ++ ends_of s.ended) [] = subst (λ (es : List Event). Going on (one_more g (heard f [] c)) es []) ended acked.goes in
      let stands : Stands on (told (tells f) (one_more g (heard f [] c))) =
      closes on (one_more g (heard f [] c)) (tells f) w.stands.role_is w.stands.limits_are w.alive w.stands.holding_is acked.kept later
      (resets_push c.role c.limits heads (c.frames ++ Received f ∷ []) g resets) (acked.credited credits) in
      let frames : (c.frames ++ Received f ∷ []) ++ Sent g ∷ [] ≡ c.frames ++ (Received f ∷ Sent g ∷ []) = append_assoc c.frames (Received f ∷ []) (Sent g ∷ []) in
      record {
        next = after (Received f ∷ Sent g ∷ []) [] (tells f) None c;
        stands = subst (λ (o : List ℕ). Stands (record now { output = o }) (after (Received f ∷ Sent g ∷ []) [] (tells f) None c)) output
            (subst (λ (x : List Step). Stands on (record (told (tells f) (heard f [] c)) { frames = x })) frames stands);
        goes = record {
          alive = alive;
          more = Received f ∷ Sent g ∷ [];
          outcomes = [];
          receives = answer.goes c.frames [] f (g ∷ []) stop_stays (reply (g ∷ []) (Some (frame_text g)) some (append-nil (frame_text g))) (answer.ends (c.frames ++ (Received f ∷ Sent g ∷ [])));
          goes_on = refl;
        };
      }

  pub plain_goes : Taken (plain_in f (record s { set = set })) c (tells f)
  plain_goes = taken_by (asks f)
