-- New calls: nothing was fed, and two frames were sent.
use Rattle.std.proofs.Common.{◌≡◌, ℕ, ◌-◌, ◌≤◌, true, false, List, [], ◌∷◌, ◌++◌, length, refl, sym, subst, ◌∙◌, inl, arith}
use Rattle.std.specs.List.{flat_map}
use Rattle.std.specs.Int.{w32, to_be_bytes}
use Rattle.std.proofs.lemmas.List.{append-nil}
use Rattle.hpack_tables.specs.declared.field.Field.{Field}
use Rattle.h2_frames.specs.declared.frame.Frame.{Frame}
use Rattle.h2_frames.specs.declared.frame.Frame.TheVariants.{Content, Settings, WindowUpdate}
use Rattle.h2_frames.specs.declared.frame.FrameBody.{FrameBody}
use Rattle.h2_frames.specs.Layout.{frame_text}
use Rattle.h2_frames.specs.Laws.{Waiting}
use Rattle.h2_frames.specs.Stream.{Frames}
use Rattle.h2_frames.proofs.Uniqueness.{read_again, unique}
use Rattle.h2_exchange.specs.declared.limits.H2Limits.{H2Limits}
use Rattle.h2_exchange.specs.declared.role.Role.{Role}
use Rattle.h2_exchange.specs.declared.role.Role.TheVariants.{Client, Server}
use Rattle.h2_exchange.specs.Exchange.{sent}
use Rattle.h2_exchange.specs.Frames.{is_data, is_rst_stream}
use Rattle.h2_exchange.specs.Sending.{IsPrefix, first_text, own_settings}
use Rattle.h2_exchange.specs.StreamParts.{Part, IsResponse, Unclosed, has_begun, parts}
use Rattle.h2_exchange.specs.Requests.{IsRequest}
use Rattle.h2_exchange.specs.Windows.{spent_on}
use Rattle.schema_numbers.specs.Numbers.{Numbers}
use Rattle.http_connection.specs.ConnectionTrace as conn
use Rattle.http_connection.specs.ConnectionTrace.{events_in}
use Rattle.grpc_stream.specs.CallTrace.{CallTrace, asked_on, fresh}
use Rattle.grpc_heads.specs.Written.{response_fields}
use Rattle.call_hearing.specs.declared.pending.Pending.TheVariants.{Nothing}
use Rattle.call_hearing.specs.Listening.{still_told, told_by}
use Rattle.call_sending.specs.Spelling.{Speaks, Spells, parts_on}
use Rattle.call_sending.proofs.Sent.{parts_same, spent_same, still_closed}
use Rattle.call_standing.specs.Standing.{Holds, IsRest, IsUnkept, bare}
use Rattle.call_standing.proofs.Rest.{rest_of}
use Rattle.call_standing.proofs.Sent.{none_sent}

-- ---- the first frames

settings_fit : (role : Role) (limits : H2Limits) → length (own_settings role limits) ≤ 16384
settings_fit Client limits = let e : length (own_settings Client limits) ≡ 12 = refl in omega (arith, e)
settings_fit Server limits = let e : length (own_settings Server limits) ≡ 18 = refl in omega (arith, e)

update_fits : (n : ℕ) → length (to_be_bytes w32 n) ≤ 16384
update_fits n = let e : length (to_be_bytes w32 n) ≡ 4 = refl in omega (arith, e)

abbrev body : (payload : List ℕ) → length payload ≤ 16384 → FrameBody
body payload fits = record { flags = 0; stream = 0; payload = payload; stream_in_range = omega arith; payload_in_range = fits }

pub record AreFrames (first : List Frame) : Type 0 where
  pub s : FrameBody
  pub u : FrameBody
  pub are : first ≡ Settings s ∷ WindowUpdate u ∷ []

read_as : (text : List ℕ) (fs : List Frame) → flat_map frame_text fs ≡ text → Frames [] text fs []
read_as text fs e = subst (λ (x : List ℕ). Frames [] x fs []) (append-nil (flat_map frame_text fs) ∙ e) (read_again [] [] fs (inl (omega arith)))

pub first_frames : (role : Role) (limits : H2Limits) (first : List Frame) → flat_map frame_text first ≡ first_text role limits → AreFrames first
first_frames role limits first e =
    let s = body (own_settings role limits) (settings_fit role limits) in
    let u = body (to_be_bytes w32 (limits.window - 65535)) (update_fits (limits.window - 65535)) in
    let text : flat_map frame_text (Settings s ∷ WindowUpdate u ∷ []) ≡ first_text role limits = refl in
    record {
      s = s;
      u = u;
      are = (unique [] (first_text role limits) first (Settings s ∷ WindowUpdate u ∷ []) (Waiting []) (Waiting []) (read_as (first_text role limits) first e) (read_as (first_text role limits) (Settings s ∷ WindowUpdate u ∷ []) text)).0;
    }

-- ---- what holds

no_parts : (s u : FrameBody) (id : ℕ) (heads : List (List Field)) → parts id heads (Settings s ∷ WindowUpdate u ∷ []) ≡ []
no_parts s u id heads =
    let closed = still_closed [] (Settings s) refl refl in
    parts_same (Settings s ∷ []) (WindowUpdate u) closed refl id heads refl ∙ parts_same [] (Settings s) refl refl id heads refl

none_spent : (s u : FrameBody) (id : ℕ) → spent_on id (Settings s ∷ WindowUpdate u ∷ []) ≡ 0
none_spent s u id =
    let closed = still_closed [] (Settings s) refl refl in
    spent_same (Settings s ∷ []) (WindowUpdate u) closed refl id ∙ spent_same [] (Settings s) refl refl id

none_begins : (ps : List Part) → ps ≡ [] → has_begun ps ≡ true → ⊥
none_begins [] e h = cc
none_begins (p ∷ ps) e h = cc

module _ (limits : H2Limits) (s u : FrameBody) (n : Numbers) where
  abbrev at : Role → CallTrace
  at role = bare (fresh (conn.begun role limits (Settings s ∷ WindowUpdate u ∷ [])) n)

  sent_are : (role : Role) → sent (at role).connection_trace.frames ≡ Settings s ∷ WindowUpdate u ∷ []
  sent_are role = refl

  unspoken : (role : Role) (id : ℕ) → parts_on (at role) id ≡ []
  unspoken role id = no_parts s u id []

  spells : (role : Role) (id : ℕ) → Spells role (at role) id []
  spells Server id = record {
    bytes = [];
    close = Unclosed;
    response = subst (λ (ps : List Part). IsResponse response_fields ps [] Unclosed) (sym (unspoken Server id)) (refl, refl);
    text = refl;
    begins = λ h. absurd (none_begins (parts_on (at Server) id) (unspoken Server id) h);
    closes = λ e h. absurd cc;
  }
  spells Client id = record {
    bytes = [];
    is_last = false;
    headed = λ h. let none : false ≡ true = h in absurd cc;
    request = subst (λ (ps : List Part). IsRequest (asked_on (at Client) id).head ps [] false) (sym (unspoken Client id)) (refl, refl);
    text = refl;
    closes = λ h. absurd cc;
  }

  speaks : (role : Role) (id : ℕ) → Speaks (at role) id []
  speaks role id = record {
    taken = tt;
    begun_first = λ h. (refl, unspoken role id);
    count = let none = none_spent s u id in omega (arith, none);
    whole = λ h. refl;
    spelled = λ h. spells role id;
  }

  unkept : (role : Role) (id : ℕ) → IsUnkept role (at role) id
  unkept Server id = record { no_head = refl; no_bytes = refl; no_end = refl; untold = refl; nothing = refl; speaks = speaks Server id; ahead = λ h. unspoken Server id }
  unkept Client id = record { unbegun = refl; no_event = refl; speaks = speaks Client id }

  told : (role : Role) → told_by role n [] ≡ [] ++ still_told role [] Nothing
  told Server = refl
  told Client = refl

  holds : (role : Role) → Holds (record { role = role; calls = []; pending = Nothing }) (at role)
  holds role = record {
    role_is = refl;
    told = told role;
    each = λ id. inl (unkept role id);
    once = λ id. refl;
    only = λ past behind f split rst. absurd (none_sent is_rst_stream (at role).connection_trace.frames past behind f split refl rst);
    unpadded = λ past behind b split. absurd (none_sent is_data (at role).connection_trace.frames past behind (Content b) split refl refl);
    calls = λ is. refl;
  }

pub fresh_holds : (role : Role) (limits : H2Limits) (first : List Frame) (n : Numbers) → flat_map frame_text first ≡ first_text role limits →
    Holds (record { role = role; calls = []; pending = Nothing }) (bare (fresh (conn.begun role limits first) n))
fresh_holds role limits first n e =
    let h = first_frames role limits first e in
    subst (λ (fs : List Frame). Holds (record { role = role; calls = []; pending = Nothing }) (bare (fresh (conn.begun role limits fs) n))) (sym h.are) (holds limits h.s h.u n role)

pub fresh_rest : (role : Role) (limits : H2Limits) (first : List Frame) (n : Numbers) → flat_map frame_text first ≡ first_text role limits →
    IsPrefix [] (events_in (conn.begun role limits first)) → IsRest (bare (fresh (conn.begun role limits first) n))
fresh_rest role limits first n e given = rest_of (record { role = role; calls = []; pending = Nothing }) (bare (fresh (conn.begun role limits first) n)) given (fresh_holds role limits first n e)
