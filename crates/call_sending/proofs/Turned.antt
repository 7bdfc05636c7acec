-- What a turn of a call leaves.
use Rattle.std.proofs.Common.{◌≡◌, ℕ, ◌+◌, ◌-◌, ◌<◌, ◌≤◌, ◌==◌, Bool, true, false, ◌&&◌, ◌||◌, List, [], ◌∷◌, ◌++◌, length, take, drop, map, refl, sym, ap, subst, ◌∙◌, arith}
use Rattle.std.proofs.lemmas.Bool.Decides.{nat_tests}
use Rattle.std.proofs.lemmas.List.{append-nil, length-drop, length-take}
use Rattle.hpack_tables.specs.declared.field.Field.{Field}
use Rattle.h2_frames.specs.declared.frame.Frame.{Frame}
use Rattle.h2_exchange.specs.Exchange.{Step, Sent}
use Rattle.h2_exchange.specs.StreamParts.{Fields}
use Rattle.h2_exchange.specs.Streams.{is_begun}
use Rattle.h2_exchange.specs.Windows.{placed_of}
use Rattle.grpc_heads.specs.Written.{response_fields}
use Rattle.http_connection.specs.ConnectionTrace.{ConnectionTrace, wrote}
use Rattle.http_connection.specs.Sends.{CarryBytes}
use Rattle.grpc_stream.specs.CallTrace.{CallTrace, changed}
use Rattle.kept_calls.specs.declared.call.Ending.{Ending}
use Rattle.kept_calls.specs.declared.call.Ending.TheVariants as end
use Rattle.kept_calls.specs.CallState.{CallState, ended}
use Rattle.call_sending.specs.Laws.{TurnsSpell}
use Rattle.call_sending.specs.Moves.{IsReady, Moves, Turned}
use Rattle.call_sending.specs.Pumping as pump
use Rattle.call_sending.specs.Pumping.{Closes, Heads, Pieces, PumpsBytes, PumpsCall, SendsBlock, closed_if, is_half_close, is_open_in, placed_in}
use Rattle.call_sending.specs.Spelling.{Sends}
use Rattle.call_sending.proofs.Joined.{piece_parts}
use Rattle.call_sending.proofs.Kept.{sends_kept}
use Rattle.call_sending.proofs.Moved.{moves_more, none_moves, piece_moves}
use Rattle.call_sending.proofs.Moving.{begun_open, block_moves}
use Rattle.call_sending.proofs.Spoke.{block_sends, head_sends, is_block_end, none_left, piece_sends, untouched}
use Rattle.call_sending.proofs.Turning.{placed_within, wrote_more}

abbrev pub at_behind : CallTrace → ConnectionTrace → CallTrace
at_behind t d = record t { connection_trace = d }

abbrev pub ReadyIn : ConnectionTrace → Type 0
ReadyIn c = IsReady c.frames c.written

pub nothing : (c : ConnectionTrace) → c ≡ wrote [] [] c
nothing c = sym (ap (λ (x : List Step). record c { frames = x; written = c.written ++ [] }) (append-nil c.frames) ∙ ap (λ (w : List (List Field)). record c { written = w }) (append-nil c.written))

pub no_turn : (t : CallTrace) (c : CallState) → ReadyIn t.connection_trace → Sends t c → Turned t c c t.connection_trace
no_turn t c ready h = record {
  ps = [];
  n = 0;
  ends = false;
  fs = [];
  lists = [];
  goes_on = nothing t.connection_trace;
  moves = none_moves t.connection_trace.role t.connection_trace.frames t.connection_trace.written c.stream ready;
  sends = subst (λ (d : ConnectionTrace). Sends (at_behind t d) c) (nothing t.connection_trace) h;
  stream_is = refl;
  receiving_is = refl;
  cutter_is = refl;
}

then_turn : (t : CallTrace) (old mid new : CallState) (at d : ConnectionTrace) → Turned t old mid at → Turned (at_behind t at) mid new d → Turned t old new d
then_turn t old mid new at d p after =
    let c = t.connection_trace in
    let q : Turned (at_behind t (wrote p.fs p.lists c)) mid new d = subst (λ (k : ConnectionTrace). Turned (at_behind t k) mid new d) p.goes_on after in
    let m : Moves c.role (c.frames ++ map Sent p.fs) (c.written ++ p.lists) old.stream q.ps q.n q.ends q.fs q.lists =
    subst (λ (id : ℕ). Moves c.role (c.frames ++ map Sent p.fs) (c.written ++ p.lists) id q.ps q.n q.ends q.fs q.lists) p.stream_is q.moves in
    record {
      ps = p.ps ++ q.ps;
      n = p.n + q.n;
      ends = p.ends || q.ends;
      fs = p.fs ++ q.fs;
      lists = p.lists ++ q.lists;
      goes_on = q.goes_on ∙ wrote_more c p.fs q.fs p.lists q.lists;
      moves = moves_more c.role c.frames c.written old.stream p.ps q.ps p.n q.n p.ends q.ends p.fs q.fs p.lists q.lists p.moves m;
      sends = subst (λ (k : ConnectionTrace). Sends (at_behind t k) new) (wrote_more c p.fs q.fs p.lists q.lists) q.sends;
      stream_is = q.stream_is ∙ p.stream_is;
      receiving_is = q.receiving_is ∙ p.receiving_is;
      cutter_is = q.cutter_is ∙ p.cutter_is;
    }

pub ready_behind : (t : CallTrace) (old new : CallState) (d : ConnectionTrace) → Turned t old new d → ReadyIn d
ready_behind t old new d p = subst ReadyIn (sym p.goes_on) p.moves.ready

pub sends_behind : (t : CallTrace) (old new : CallState) (d : ConnectionTrace) → Turned t old new d → Sends (at_behind t d) new
sends_behind t old new d p = subst (λ (k : ConnectionTrace). Sends (at_behind t k) new) (sym p.goes_on) p.sends

-- a block that makes this of what is kept
block_turn : (t : CallTrace) (old new : CallState) (last : Bool) (fields : List Field) (d : ConnectionTrace) → ReadyIn t.connection_trace → new.stream ≡ old.stream → new.receiving ≡ old.receiving → new.cutter ≡ old.cutter →
    (s : SendsBlock t.connection_trace old.stream last fields d) →
    (Moves t.connection_trace.role t.connection_trace.frames t.connection_trace.written old.stream (Fields fields last ∷ []) 0 last s.fs (fields ∷ []) → Sends (changed (wrote s.fs (fields ∷ [])) t) new) → Turned t old new d
block_turn t old new last fields d ready stream_is receiving_is cutter_is s spells =
    let c = t.connection_trace in
    let m = block_moves c.role c.frames c.written old.stream last fields s.fs ready s.opened s.block in
    record {
      ps = Fields fields last ∷ [];
      n = 0;
      ends = last;
      fs = s.fs;
      lists = fields ∷ [];
      goes_on = s.goes_on;
      moves = m;
      sends = spells m;
      stream_is = stream_is;
      receiving_is = receiving_is;
      cutter_is = cutter_is;
    }

begun_in : (t : CallTrace) (id : ℕ) → is_open_in t.connection_trace id ≡ true → is_begun t.connection_trace.role t.connection_trace.frames id ≡ true
begun_in t id o = begun_open t.connection_trace.role t.connection_trace.frames id o

as_before : (t : CallTrace) (old new : CallState) (d : ConnectionTrace) → ReadyIn t.connection_trace → Sends t old → new ≡ old → d ≡ t.connection_trace → Turned t old new d
as_before t old new d ready h same still =
    subst (λ (v : CallState). Turned t old v d) (sym same) (subst (λ (k : ConnectionTrace). Turned t old old k) (sym still) (no_turn t old ready h))

heads_turn : (t : CallTrace) (b : Bool) (old new : CallState) (d : ConnectionTrace) → ReadyIn t.connection_trace → Sends t old → old.has_head ≡ b → 0 < length old.unsent → Heads b t.connection_trace old new d →
    Turned t old new d × (new.has_head ≡ true)
heads_turn t true old new d ready h is some (same, still) = (as_before t old new d ready h same still, ap (λ (v : CallState). v.has_head) same ∙ is)
heads_turn t false old new d ready h is some (same, s) = (
  subst (λ (v : CallState). Turned t old v d) (sym same)
      (block_turn t old (record old { has_head = true }) false response_fields d ready refl refl refl s
      (λ m. head_sends t old s.fs (response_fields ∷ []) (begun_in t old.stream s.opened) s.opened h m is some)),
  ap (λ (v : CallState). v.has_head) same,
)

closing_same : (half : Bool) (n len left : ℕ) → left ≡ len - n → n ≤ len → (half && n == len) ≡ (left == 0 && half)
closing_same true n len left e within = grind (arith, nat_tests)
closing_same false n len left e within = sym (both_false (left == 0))
  where
    both_false : (b : Bool) → (b && false) ≡ false
    both_false true = refl
    both_false false = refl

-- one DATA of what is left
piece_turn : (t : CallTrace) (old : CallState) (n : ℕ) (ends : Bool) (fs : List Frame) (d : ConnectionTrace) → ReadyIn t.connection_trace → Sends t old → is_open_in t.connection_trace old.stream ≡ true →
    n ≤ length old.unsent → ends ≡ (length (drop n old.unsent) == 0 && is_half_close old.ending) → (ends ≡ false → old.has_head ≡ true) → CarryBytes old.stream ends (take n old.unsent) fs → d ≡ wrote fs [] t.connection_trace →
    Turned t old (placed_in n old) d
piece_turn t old n ends fs d ready h opened within closing headed carries goes_on =
    let c = t.connection_trace in
    let moved = piece_moves c.role c.frames c.written old.stream ends (take n old.unsent) fs ready opened carries in
    let as_many : length (take n old.unsent) ≡ n = omega (arith, length-take n old.unsent, within) in
    let m : Moves c.role c.frames c.written old.stream (piece_parts ends (take n old.unsent)) n ends fs [] =
    subst (λ (k : ℕ). Moves c.role c.frames c.written old.stream (piece_parts ends (take n old.unsent)) k ends fs []) as_many moved in
    record {
      ps = piece_parts ends (take n old.unsent);
      n = n;
      ends = ends;
      fs = fs;
      lists = [];
      goes_on = goes_on;
      moves = m;
      sends = piece_sends t old fs [] (begun_in t old.stream opened) opened h n ends within closing headed m;
      stream_is = refl;
      receiving_is = refl;
      cutter_is = refl;
    }

placed_fits : (c : ConnectionTrace) (id n : ℕ) (piece : List ℕ) → n ≡ placed_of c.frames id piece → n ≤ length piece
placed_fits c id n piece e = placed_within c id n piece piece refl e

pieces_turn : (t : CallTrace) (old : CallState) (g : Bool) (new : CallState) (d : ConnectionTrace) → ReadyIn t.connection_trace → Sends t old → old.has_head ≡ true → Pieces t.connection_trace old g new d → Turned t old new d
pieces_turn t old g new d ready h headed p =
    let within = placed_fits t.connection_trace old.stream p.n old.unsent p.sends.placed in
    subst (λ (v : CallState). Turned t old v d) (sym p.new_is)
    (piece_turn t old p.n (is_half_close old.ending && p.n == length old.unsent) p.sends.fs d ready h p.sends.opened within
    (closing_same (is_half_close old.ending) p.n (length old.unsent) (length (drop p.n old.unsent)) (length-drop p.n old.unsent) within) (λ e. headed) p.sends.carries p.sends.goes_on)

half_closed : (e : Ending) (xs : List ℕ) → e ≡ end.HalfClose → length xs ≡ 0 → true ≡ (length xs == 0 && is_half_close e)
half_closed e xs is none = sym (ap (λ (n : ℕ). n == 0 && is_half_close e) none ∙ ap is_half_close is)

closes_turn : (t : CallTrace) (e : Ending) (old new : CallState) (d : ConnectionTrace) → ReadyIn t.connection_trace → Sends t old → old.ending ≡ e → length old.unsent ≡ 0 → Closes e t.connection_trace old new d → Turned t old new d
closes_turn t end.Open old new d ready h is none (same, still) = as_before t old new d ready h same still
closes_turn t end.Sent old new d ready h is none (same, still) = as_before t old new d ready h same still
closes_turn t end.Block old new d ready h is none (same, s) =
    subst (λ (v : CallState). Turned t old v d) (sym same)
    (block_turn t old (record old { ending = end.Sent }) true old.fields d ready refl refl refl s
    (λ m. block_sends t old s.fs (old.fields ∷ []) (begun_in t old.stream s.opened) s.opened h m none (ap is_block_end is)))
closes_turn t end.Trailers old new d ready h is none (same, s) =
    subst (λ (v : CallState). Turned t old v d) (sym same)
    (block_turn t old (record old { ending = end.Sent }) true old.fields d ready refl refl refl s
    (λ m. block_sends t old s.fs (old.fields ∷ []) (begun_in t old.stream s.opened) s.opened h m none (ap is_block_end is)))
closes_turn t end.HalfClose old new d ready h is none (same, (n, s)) =
    let zero_placed : n ≡ 0 = omega (arith, placed_fits t.connection_trace old.stream n [] s.placed) in
    let carries : CarryBytes old.stream true [] s.fs = subst (λ (k : ℕ). CarryBytes old.stream (k == 0) (take k []) s.fs) zero_placed s.carries in
    let empty : old.unsent ≡ [] = none_left old.unsent none in
    let now : Turned t old (placed_in 0 old) d =
    piece_turn t old 0 true s.fs d ready h s.opened (omega arith) (half_closed old.ending (drop 0 old.unsent) is (omega (arith, length-drop 0 old.unsent, none))) (λ e. absurd cc)
    (subst (λ (xs : List ℕ). CarryBytes old.stream true xs s.fs) (sym (ap (take 0) empty)) carries) s.goes_on in
    subst (λ (v : CallState). Turned t old v d) (sym same)
    (subst (λ (xs : List ℕ). Turned t old (record old { unsent = xs; ending = end.Sent }) d) (ap (drop 0) empty ∙ sym empty)
    (subst (λ (b : Bool). Turned t old (record old { unsent = drop 0 old.unsent; ending = closed_if b old.ending }) d)
    (sym (half_closed old.ending (drop 0 old.unsent) is (omega (arith, length-drop 0 old.unsent, none)))) now))

bytes_turn : (t : CallTrace) (old : CallState) (g : Bool) (new : CallState) (d : ConnectionTrace) → ReadyIn t.connection_trace → Sends t old → old.has_head ≡ true → PumpsBytes t.connection_trace old g new d → Turned t old new d
bytes_turn t old g new d ready h headed (pump.piece _ _ _ p left) = pieces_turn t old g new d ready h headed p
bytes_turn t old _ new d ready h headed (pump.whole next _ at _ p none closes) =
    let first = pieces_turn t old false next at ready h headed p in
    then_turn t old next new at d first
    (closes_turn (at_behind t at) next.ending next new d (ready_behind t old next at first) (sends_behind t old next at first) refl none closes)

pub call_turn : (t : CallTrace) (old : CallState) (g : Bool) (new : CallState) (d : ConnectionTrace) → ReadyIn t.connection_trace → PumpsCall t.connection_trace old g new d → Sends t old → Turned t old new d
call_turn t old _ _ _ ready (pump.idle none ended) h = no_turn t old ready h
call_turn t old _ _ _ ready (pump.shut closed) h = no_turn t old ready h
call_turn t old g new d ready (pump.bytes mid _ at _ _ opened some heads behind) h =
    let first = heads_turn t old.has_head old mid at ready h refl some heads in
    then_turn t old mid new at d first.0
    (bytes_turn (at_behind t at) mid g new d (ready_behind t old mid at first.0) (sends_behind t old mid at first.0) first.1 behind)
call_turn t old _ new d ready (pump.close _ _ opened none closes) h = closes_turn t old.ending old new d ready h refl none closes

others_kept : (t : CallTrace) (old new : CallState) (d : ConnectionTrace) → Turned t old new d → (other : CallState) → (old.stream == other.stream) ≡ false → Sends t other → Sends (at_behind t d) other
others_kept t old new d p other apart h =
    subst (λ (k : ConnectionTrace). Sends (at_behind t k) other) (sym p.goes_on)
    (sends_kept t (changed (wrote p.fs p.lists) t) other (untouched t old.stream p.ps p.n p.ends p.fs p.lists p.moves other.stream apart) h)

pub turns_spell : TurnsSpell
turns_spell = λ t old new g d ready turn h.
    let turned = call_turn t old g new d ready turn h in
    (turned, others_kept t old new d turned)
