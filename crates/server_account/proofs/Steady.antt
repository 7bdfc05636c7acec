-- WINDOW_UPDATE that is sent leaves streams, their windows and what is spelled on them as they are.
use Rattle.std.proofs.Common.{◌≡◌, ℕ, ◌+◌, ◌-◌, Bool, ◌&&◌, ◌||◌, true, false, not, map, min, filter, sum_by, List, [], ◌∷◌, ◌++◌, Option, None, Ok, refl, sym, ap, subst, ◌∙◌, arith, append_assoc, append-nil}
use Rattle.std.specs.Prelude.{if◌then◌else◌, option_to_list, ◌==◌}
use Rattle.std.specs.List.{flat_map}
use Rattle.std.proofs.lemmas.List.Folds.{list_any-append}
use Rattle.std.proofs.lemmas.List.Sums.{sum_by-append}
use Rattle.grpc_heads.specs.CallEnd.{CallEnd}
use Rattle.hpack_tables.specs.declared.field.Field.{Field}
use Rattle.h2_frames.specs.declared.frame.Frame.{Frame}
use Rattle.h2_frames.specs.declared.frame.Frame.TheVariants.{WindowUpdate}
use Rattle.h2_frames.specs.declared.frame.FrameBody.{FrameBody}
use Rattle.h2_exchange.specs.declared.role.Role.{Role}
use Rattle.h2_exchange.specs.declared.role.Role.TheVariants.{Client, Server}
use Rattle.h2_exchange.specs.Blocks.{Block, block_with, blocks, completed, open_block}
use Rattle.h2_exchange.specs.Content.{Outcome, ReadOver}
use Rattle.h2_exchange.specs.Exchange.{Step, Sent, received, sent}
use Rattle.h2_exchange.specs.Frames.{has_end_headers, is_rst_stream, is_window_update, stream_of}
use Rattle.h2_exchange.specs.StreamParts.{AnswersAre, IsResponse, Item, Part, block_part, part_of, parts}
use Rattle.h2_exchange.specs.Streams.{begins, begun, has_rst_stream, is_begun, is_ended_by, is_live, is_new, is_over, is_reset, live, of_client}
use Rattle.h2_exchange.specs.Windows.{initial_window, granted_on, may_send, spent, spent_on}
use Rattle.h2_exchange.proofs.Looking.{collect_push, or_nothing}
use Rattle.h2_exchange.proofs.Steps.{begun_list_push, begun_push, header_blocks_grow, received_sent, sent_push, window_sums_grow}
use Rattle.server_account.proofs.Resets.{ended_push, no_block, other_ends_none}

-- ---- one frame

-- What a stream is, what was spent on it, and what is spelled on it.
pub record IsSteady (role : Role) (x y : List Step) : Type 0 where
  pub resets : (id : ℕ) → is_reset y id ≡ is_reset x id
  pub lives : (id : ℕ) → is_live role y id ≡ is_live role x id
  pub ids : begun role y ≡ begun role x
  pub heard : received y ≡ received x
  pub spent_there : (id : ℕ) → spent_on id (sent y) ≡ spent_on id (sent x)
  pub spent_all : spent (sent y) ≡ spent (sent x)
  pub blocks_are : blocks (sent y) ≡ blocks (sent x)
  pub spelled : (id : ℕ) (heads : List (List Field)) → parts id heads (sent y) ≡ parts id heads (sent x)

pub steady_then : (role : Role) (x y z : List Step) → IsSteady role x y → IsSteady role y z → IsSteady role x z
steady_then role x y z h k = record {
  resets = λ id. k.resets id ∙ h.resets id;
  lives = λ id. k.lives id ∙ h.lives id;
  ids = k.ids ∙ h.ids;
  heard = k.heard ∙ h.heard;
  spent_there = λ id. k.spent_there id ∙ h.spent_there id;
  spent_all = k.spent_all ∙ h.spent_all;
  blocks_are = k.blocks_are ∙ h.blocks_are;
  spelled = λ id heads. k.spelled id heads ∙ h.spelled id heads;
}

plus_none : (n : ℕ) (b : Bool) → n + (if b then 0 else 0) ≡ n
plus_none n true = omega arith
plus_none n false = omega arith

module _ (role : Role) (x : List Step) (b : FrameBody) where
  abbrev after : List Step
  after = x ++ Sent (WindowUpdate b) ∷ []

  sent_is : sent after ≡ sent x ++ WindowUpdate b ∷ []
  sent_is = sent_push x (WindowUpdate b)

  none_begins : (r : Role) (id : ℕ) → begins r id x (Sent (WindowUpdate b)) ≡ false
  none_begins Server id = refl
  none_begins Client id = refl

  none_new : (r : Role) → flat_map (λ (f : Frame). if is_new (of_client r x) f then stream_of f ∷ [] else []) (of_client r (Sent (WindowUpdate b) ∷ [])) ≡ []
  none_new Server = refl
  none_new Client = refl

  reset_same : (id : ℕ) → is_reset after id ≡ is_reset x id
  reset_same id =
      ap (λ (fs : List Frame). has_rst_stream fs id || has_rst_stream (sent after) id) (received_sent x (WindowUpdate b))
      ∙ ap (λ (c : Bool). has_rst_stream (received x) id || c) (ap (λ (fs : List Frame). has_rst_stream fs id) sent_is
      ∙ list_any-append (λ (g : Frame). is_rst_stream g && stream_of g == id) (sent x) (WindowUpdate b ∷ []) ∙ or_nothing (has_rst_stream (sent x) id))

  ended_same : (id : ℕ) → is_ended_by (sent after) id ≡ is_ended_by (sent x) id
  ended_same id =
      ap (λ (fs : List Frame). is_ended_by fs id) sent_is ∙ ended_push id (sent x) (WindowUpdate b)
      ∙ ap (λ (c : Bool). is_ended_by (sent x) id || c) (other_ends_none id (sent x) (WindowUpdate b) refl) ∙ or_nothing (is_ended_by (sent x) id)

  over_same : (id : ℕ) → is_over after id ≡ is_over x id
  over_same id =
      ap (λ (c : Bool). c || is_ended_by (received after) id && is_ended_by (sent after) id) (reset_same id)
      ∙ ap (λ (fs : List Frame). is_reset x id || is_ended_by fs id && is_ended_by (sent after) id) (received_sent x (WindowUpdate b))
      ∙ ap (λ (c : Bool). is_reset x id || is_ended_by (received x) id && c) (ended_same id)

  begun_same : (id : ℕ) → is_begun role after id ≡ is_begun role x id
  begun_same id = begun_push role x (Sent (WindowUpdate b)) id ∙ ap (λ (c : Bool). is_begun role x id || c) (none_begins role id) ∙ or_nothing (is_begun role x id)

  live_same : (id : ℕ) → is_live role after id ≡ is_live role x id
  live_same id = ap (λ (c : Bool). c && not (is_over after id)) (begun_same id) ∙ ap (λ (c : Bool). is_begun role x id && not c) (over_same id)

  either_none : (c : Bool) (o : Option Block) → o ≡ None → (if c then o else None) ≡ None
  either_none true o e = e
  either_none false o e = refl

  none_done : completed (sent x) (WindowUpdate b) ≡ None
  none_done = either_none (has_end_headers (WindowUpdate b)) (block_with (open_block (sent x)) (WindowUpdate b)) (no_block (open_block (sent x)) (WindowUpdate b) refl)

  blocks_same : blocks (sent after) ≡ blocks (sent x)
  blocks_same =
      ap blocks sent_is ∙ header_blocks_grow.blocks_push (sent x) (WindowUpdate b) ∙ ap (λ (o : Option Block). blocks (sent x) ++ option_to_list o) none_done ∙ append-nil (blocks (sent x))

  parts_same : (id : ℕ) (heads : List (List Field)) → parts id heads (sent after) ≡ parts id heads (sent x)
  parts_same id heads =
      ap (parts id heads) sent_is ∙ collect_push (part_of id heads) (sent x) (WindowUpdate b)
      ∙ ap (λ (o : Option Block). parts id heads (sent x) ++ block_part id heads (sent x) o) none_done ∙ append-nil (parts id heads (sent x))

  one_steady : IsSteady role x after
  one_steady = record {
    resets = reset_same;
    lives = live_same;
    ids = begun_list_push role x (Sent (WindowUpdate b)) ∙ ap (λ (l : List ℕ). begun role x ++ l) (none_new role) ∙ append-nil (begun role x);
    heard = received_sent x (WindowUpdate b);
    spent_there = λ id. ap (spent_on id) sent_is ∙ window_sums_grow.spent_on_push id (sent x) (WindowUpdate b) ∙ plus_none (spent_on id (sent x)) (b.stream == id);
    spent_all = ap spent sent_is ∙ window_sums_grow.spent_push (sent x) (WindowUpdate b) ∙ plus_none (spent (sent x)) true;
    blocks_are = blocks_same;
    spelled = parts_same;
  }

pub update_steady : (role : Role) (x : List Step) (f : Frame) → is_window_update f ≡ true → IsSteady role x (x ++ Sent f ∷ [])
update_steady role x (WindowUpdate b) is = one_steady role x b
update_steady role x other is = absurd cc

-- ---- any of them

abbrev pub AreUpdates : List Frame → Type 0
AreUpdates [] = Unit {0}
AreUpdates (f ∷ fs) = (is_window_update f ≡ true) × AreUpdates fs

none_steady : (role : Role) (x : List Step) → IsSteady role x x
none_steady role x = record { resets = λ id. refl; lives = λ id. refl; ids = refl; heard = refl; spent_there = λ id. refl; spent_all = refl; blocks_are = refl; spelled = λ id heads. refl }

pub all_steady : (role : Role) (x : List Step) (fs : List Frame) → AreUpdates fs → IsSteady role x (x ++ map Sent fs)
all_steady role x [] h = subst (IsSteady role x) (sym (append-nil x)) (none_steady role x)
all_steady role x (f ∷ fs) (now, others) =
    subst (IsSteady role x) (append_assoc x (Sent f ∷ []) (map Sent fs))
    (steady_then role x (x ++ Sent f ∷ []) ((x ++ Sent f ∷ []) ++ map Sent fs) (update_steady role x f now) (all_steady role (x ++ Sent f ∷ []) fs others))

-- ---- what follows

module _ (role : Role) (x y : List Step) (h : IsSteady role x y) where
  pub may_send_same : (id : ℕ) → may_send y id ≡ may_send x id
  may_send_same id =
      ap (λ (fs : List Frame). min (initial_window fs + granted_on id fs - spent_on id (sent y)) (65535 + granted_on 0 fs - spent (sent y))) h.heard
      ∙ ap (λ (n : ℕ). min (initial_window (received x) + granted_on id (received x) - n) (65535 + granted_on 0 (received x) - spent (sent y))) (h.spent_there id)
      ∙ ap (λ (n : ℕ). min (initial_window (received x) + granted_on id (received x) - spent_on id (sent x)) (65535 + granted_on 0 (received x) - n)) h.spent_all

  pub answers_same : (head : List Field) (read_end : List Field → CallEnd) (id : ℕ) (owed : List (Item CallEnd)) → AnswersAre head read_end x id owed → AnswersAre head read_end y id owed
  answers_same head read_end id owed (heads, are_read, messages, rest, end, spells, all) = (
    heads,
    subst (λ (bs : List Block). ReadOver [] 4096 bs (map (λ (fields : List Field). (let o : Outcome = Ok fields in o)) heads)) (sym h.blocks_are) are_read,
    messages,
    rest,
    end,
    record {
      bytes = spells.bytes;
      close = spells.close;
      response = subst (λ (ps : List Part). IsResponse head ps spells.bytes spells.close) (sym (h.spelled id heads)) spells.response;
      cut = spells.cut;
      end_is = spells.end_is;
    },
    all,
  )

  live_list_same : live role y ≡ live role x
  live_list_same = ap (filter (is_live role y)) h.ids ∙ kept (begun role x)
    where
      kept : (ids : List ℕ) → filter (is_live role y) ids ≡ filter (is_live role x) ids
      kept [] = refl
      kept (i ∷ ids) =
          ap (λ (b : Bool). if b then i ∷ filter (is_live role y) ids else filter (is_live role y) ids) (h.lives i)
          ∙ ap (λ (l : List ℕ). if is_live role x i then i ∷ l else l) (kept ids)

  pub live_sums_same : (f g : ℕ → ℕ) → ((id : ℕ) → f id ≡ g id) → sum_by f (live role y) ≡ sum_by g (live role x)
  live_sums_same f g same = ap (sum_by f) live_list_same ∙ sums (live role x)
    where
      sums : (ids : List ℕ) → sum_by f ids ≡ sum_by g ids
      sums [] = refl
      sums (i ∷ ids) =
          let one_f : sum_by f (i ∷ []) ≡ 0 + f i = refl in
          let one_g : sum_by g (i ∷ []) ≡ 0 + g i = refl in
          omega (arith, one_f, one_g, sum_by-append f (i ∷ []) ids, sum_by-append g (i ∷ []) ids, same i, sums ids)
