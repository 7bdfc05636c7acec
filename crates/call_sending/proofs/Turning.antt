-- What a turn and a round of turns send and leave.
use Rattle.std.proofs.Common.{◌≡◌, ℕ, ◌<◌, ◌≤◌, Bool, true, false, ◌&&◌, ◌||◌, List, [], ◌∷◌, ◌++◌, length, drop, map, None, Result, Ok, Err, refl, sym, ap, subst, ◌∙◌, append_assoc, arith}
use Rattle.std.proofs.lemmas.Bool.Decides.{nat_tests}
use Rattle.std.specs.Prelude.{◌==◌, not, nat_lt, if◌then◌else◌}
use Rattle.std.proofs.lemmas.List.{append-nil, map-append, length-drop}
use Rattle.hpack_tables.specs.declared.field.Field.{Field}
use Rattle.h2_frames.specs.declared.frame.Frame.{Frame}
use Rattle.h2_exchange.specs.Exchange.{Step, Sent}
use Rattle.h2_exchange.specs.Windows.{placed_of}
use Rattle.h2_exchange.proofs.Places.{and_parts, not_true}
use Rattle.http_connection.specs.ConnectionTrace.{ConnectionTrace, is_alive, wrote}
use Rattle.http_connection.specs.Sends.{CarryBlock, CarryPiece}
use Rattle.kept_calls.specs.CallState.{CallState}
use Rattle.kept_calls.specs.declared.call.Ending.{Ending}
use Rattle.kept_calls.specs.declared.call.Ending.TheVariants as end
use Rattle.call_sending.specs.Pumping as pump
use Rattle.call_sending.specs.Pumping.{Closes, Heads, Lessens, Pieces, PumpsBytes, PumpsCall, PumpsCalls, PumpsRound, SendsBlock, SendsPiece, WentOn, is_open_in, placed_in}

-- ---- nothing but frames is sent

with_both : ConnectionTrace → List Step → List (List Field) → ConnectionTrace
with_both c x lists = record c { frames = x; written = lists }

pub went_none : (c : ConnectionTrace) → WentOn c c
went_none c = record {
  fs = [];
  lists = [];
  goes_on = sym (ap (λ (x : List Step). record c { frames = x; written = c.written ++ [] }) (append-nil c.frames)
      ∙ ap (λ (w : List (List Field)). record c { written = w }) (append-nil c.written));
}

pub wrote_more : (c : ConnectionTrace) (fs gs : List Frame) (lists others : List (List Field)) →
    wrote gs others (wrote fs lists c) ≡ wrote (fs ++ gs) (lists ++ others) c
wrote_more c fs gs lists others =
    ap (λ (x : List Step). record c { frames = x; written = (c.written ++ lists) ++ others })
    (append_assoc c.frames (map Sent fs) (map Sent gs) ∙ ap (λ (x : List Step). c.frames ++ x) (sym (map-append Sent fs gs)))
    ∙ ap (λ (w : List (List Field)). record c { frames = c.frames ++ map Sent (fs ++ gs); written = w }) (append_assoc c.written lists others)

pub went_more : (c d e : ConnectionTrace) → WentOn c d → WentOn d e → WentOn c e
went_more c d e p q = record {
  fs = p.fs ++ q.fs;
  lists = p.lists ++ q.lists;
  goes_on = q.goes_on ∙ ap (wrote q.fs q.lists) p.goes_on ∙ wrote_more c p.fs q.fs p.lists q.lists;
}

went_same : (c d : ConnectionTrace) → d ≡ c → WentOn c d
went_same c d e = subst (WentOn c) (sym e) (went_none c)

went_by_block : (c : ConnectionTrace) (id : ℕ) (last : Bool) (fields : List Field) (d : ConnectionTrace) → SendsBlock c id last fields d → WentOn c d
went_by_block c id last fields d h = record { fs = h.fs; lists = fields ∷ []; goes_on = h.goes_on }

went_by_piece : (c : ConnectionTrace) (id : ℕ) (piece : List ℕ) (last : Bool) (n : ℕ) (d : ConnectionTrace) → SendsPiece c id piece last n d → WentOn c d
went_by_piece c id piece last n d h = record { fs = h.fs; lists = []; goes_on = h.goes_on }

pub still_alive : (c d : ConnectionTrace) → WentOn c d → c.refusal ≡ None → d.refusal ≡ None
still_alive c d h alive = ap (λ (k : ConnectionTrace). k.refusal) h.goes_on ∙ alive

pub heads_went : (b : Bool) (c : ConnectionTrace) (old new : CallState) (d : ConnectionTrace) → Heads b c old new d → WentOn c d
heads_went true c old new d h = went_same c d h.1
heads_went false c old new d h = went_by_block c _ _ _ d h.1

pub pieces_went : (c : ConnectionTrace) (old : CallState) (g : Bool) (new : CallState) (d : ConnectionTrace) → Pieces c old g new d → WentOn c d
pieces_went c old g new d h = went_by_piece c _ _ _ _ d h.sends

pub closes_went : (e : Ending) (c : ConnectionTrace) (old new : CallState) (d : ConnectionTrace) → Closes e c old new d → WentOn c d
closes_went end.Open c old new d h = went_same c d h.1
closes_went end.Sent c old new d h = went_same c d h.1
closes_went end.Block c old new d h = went_by_block c _ _ _ d h.1
closes_went end.Trailers c old new d h = went_by_block c _ _ _ d h.1
closes_went end.HalfClose c old new d h = went_by_piece c _ _ _ _ d h.1.1

pub bytes_went : (c : ConnectionTrace) (old : CallState) (g : Bool) (new : CallState) (d : ConnectionTrace) → PumpsBytes c old g new d → WentOn c d
bytes_went c old g new d (pump.piece _ _ _ h left) = pieces_went c old g new d h
bytes_went c old _ new d (pump.whole next _ at _ h none h2) = went_more c at d (pieces_went c old false next at h) (closes_went next.ending at next new d h2)

pub call_went : (c : ConnectionTrace) (old : CallState) (g : Bool) (new : CallState) (d : ConnectionTrace) → PumpsCall c old g new d → WentOn c d
call_went c old _ _ _ (pump.idle none ended) = went_none c
call_went c old _ _ _ (pump.shut closed) = went_none c
call_went c old g new d (pump.bytes mid _ at _ _ opened some heads behind) =
    went_more c at d (heads_went old.has_head c old mid at heads) (bytes_went at mid g new d behind)
call_went c old _ new d (pump.close _ _ opened none closes) = closes_went old.ending c old new d closes

pub round_went : (c : ConnectionTrace) (olds : List CallState) (g : Bool) (news : List CallState) (d : ConnectionTrace) → PumpsRound c olds g news d → WentOn c d
round_went c _ _ _ _ (pump.none _) = went_none c
round_went c _ _ _ d (pump.more _ at _ old new olds news first later h others) = went_more c at d (call_went c old first new at h) (round_went at olds later news d others)

pub calls_went : (c : ConnectionTrace) (olds news : List CallState) (d : ConnectionTrace) → PumpsCalls c olds news d → WentOn c d
calls_went c olds news d (pump.last _ _ _ _ h) = round_went c olds false news d h
calls_went c olds news d (pump.round _ at _ _ mids _ h rest) = went_more c at d (round_went c olds true mids at h) (calls_went at mids news d rest)

-- ---- what the connection answers

module _ {C : Type 0} (stands : C → ConnectionTrace → Type 0) (new : C) where
  pub without_memory : (c : ConnectionTrace) → stands new c → (d : ConnectionTrace) × stands new d × WentOn c d
  without_memory c h = (c, h, went_none c)

  pub less_memory : (c at : ConnectionTrace) → WentOn c at → ((d : ConnectionTrace) × stands new d × WentOn at d) → (d : ConnectionTrace) × stands new d × WentOn c d
  less_memory c at went (d, h, more) = (d, h, went_more c at d went more)

  pub block_sent : (c : ConnectionTrace) (id : ℕ) (last : Bool) (fields said : List Field) → fields ≡ said → (is_alive c && is_open_in c id) ≡ true →
      ((fs : List Frame) × CarryBlock id last fs × stands new (wrote fs (fields ∷ []) c)) → (d : ConnectionTrace) × stands new d × SendsBlock c id last said d
  block_sent c id last fields said same opened (fs, carries, h) = (
    wrote fs (fields ∷ []) c,
    h,
    record {
      fs = fs;
      block = carries;
      goes_on = ap (λ (l : List Field). wrote fs (l ∷ []) c) same;
      opened = (and_parts (is_alive c) (is_open_in c id) opened).1;
    },
  )

  pub piece_sent : (c : ConnectionTrace) (id : ℕ) (piece said : List ℕ) (last told : Bool) (n : ℕ) → piece ≡ said → last ≡ told → (is_alive c && is_open_in c id) ≡ true →
      ((n ≡ placed_of c.frames id piece) × (fs : List Frame) × CarryPiece id piece last n fs × stands new (wrote fs [] c)) → (d : ConnectionTrace) × stands new d × SendsPiece c id said told n d
  piece_sent c id piece said last told n same ends opened (placed, fs, carries, h) = (
    wrote fs [] c,
    h,
    record {
      fs = fs;
      placed = placed ∙ ap (placed_of c.frames id) same;
      carries = subst (λ (b : Bool). CarryPiece id said b n fs) ends (subst (λ (p : List ℕ). CarryPiece id p last n fs) same carries);
      goes_on = refl;
      opened = (and_parts (is_alive c) (is_open_in c id) opened).1;
    },
  )

pub placed_within : (c : ConnectionTrace) (id n : ℕ) (piece said : List ℕ) → piece ≡ said → n ≡ placed_of c.frames id piece → n ≤ length said
placed_within c id n piece said same placed = omega (arith, ap length same, placed)

pub closing : {C A E : Type 0} (stands : C → ConnectionTrace → Type 0) (conn : C) (r : Result A E) (c : ConnectionTrace) (old new : CallState) (ending is : Ending) → ending ≡ is →
    pump.Turns stands conn r c (λ done d. Closes is c old new d) → pump.Turns stands conn r c (λ done d. Closes ending c old new d)
closing stands conn (Ok x) c old new ending is same (d, h, closes) = (d, h, subst (λ (e : Ending). Closes e c old new d) (sym same) closes)
closing stands conn (Err e) c old new ending is same h = h

-- what is sent behind the head is sent by the turn
pub behind_head : {C E : Type 0} (stands : C → ConnectionTrace → Type 0) (conn : C) (r : Result Bool E) (c at : ConnectionTrace) (old mid new : CallState) → is_open_in c old.stream ≡ true → 0 < length old.unsent → Heads old.has_head c old mid at →
    pump.Turns stands conn r at (λ g d. PumpsBytes at mid g new d) → pump.Turns stands conn r c (λ g d. PumpsCall c old g new d)
behind_head stands conn (Ok g) c at old mid new opened some heads (d, h, turn) = (d, h, pump.bytes mid new at d g opened some heads turn)
behind_head stands conn (Err e) c at old mid new opened some heads h = less_memory stands conn c at (heads_went old.has_head c old mid at heads) h

-- ---- a turn leaves no more than there was

pub some_of : (n : ℕ) → (n == 0) ≡ false → 0 < n
some_of n e = grind (arith, nat_tests)

pub zero_of : (n : ℕ) → (n == 0) ≡ true → n ≡ 0
zero_of n e = grind (arith, nat_tests)

pub above : (n : ℕ) → nat_lt 0 n ≡ true → 0 < n
above n e = grind (arith, nat_tests)

goes : (n m : ℕ) → (nat_lt 0 n && not (m == 0)) ≡ true → (0 < n) × (0 < m)
goes n m e =
    let both = and_parts (nat_lt 0 n) (not (m == 0)) e in
    (above n both.0, some_of m (not_true (m == 0) both.1))

pub placed_lessens : (n : ℕ) (bytes : List ℕ) → Lessens (nat_lt 0 n && not (length (drop n bytes) == 0)) (length bytes) (length (drop n bytes))
placed_lessens n bytes = record {
  least = omega (arith, length-drop n bytes);
  less = λ e.
      let both = goes n (length (drop n bytes)) e in
      omega (arith, both.0, both.1, length-drop n bytes);
}

pub piece_lessens : (n : ℕ) (old new : CallState) (g : Bool) → new ≡ placed_in n old → g ≡ (nat_lt 0 n && not (length (drop n old.unsent) == 0)) → Lessens g (length old.unsent) (length new.unsent)
piece_lessens n old new g is e =
    subst (λ (b : Bool). Lessens b (length old.unsent) (length new.unsent)) (sym e)
    (subst (λ (c : CallState). Lessens (nat_lt 0 n && not (length (drop n old.unsent) == 0)) (length old.unsent) (length c.unsent)) (sym is) (placed_lessens n old.unsent))

pub none_less : (n : ℕ) → Lessens false n n
none_less n = record { least = omega arith; less = λ e. absurd cc }

-- nothing follows, and what is left stays
pub stays_less : (g : Bool) (a b c : ℕ) → Lessens g a b → c ≡ b → Lessens false a c
stays_less g a b c h e = record { least = omega (arith, h.least, e); less = λ k. absurd cc }

-- ---- a round

shared : (a b c : Bool) → (if a then true else (b || c)) ≡ ((if a then true else b) || c)
shared true b c = refl
shared false b c = refl

or_false : (f : Bool) → (if f then true else false) ≡ f
or_false true = refl
or_false false = refl

pub round_push : (c : ConnectionTrace) (olds : List CallState) (g : Bool) (news : List CallState) (at d : ConnectionTrace) (old new : CallState) (f : Bool) → PumpsRound c olds g news at → PumpsCall at old f new d →
    PumpsRound c (olds ++ old ∷ []) (g || f) (news ++ new ∷ []) d
round_push c _ _ _ _ d old new f (pump.none _) turn =
    subst (λ (b : Bool). PumpsRound c (old ∷ []) b (new ∷ []) d) (or_false f) (pump.more c d d old new [] [] f false turn (pump.none d))
round_push c _ _ _ at d old new f (pump.more _ mid _ first next olds news now later h rest) turn =
    subst (λ (b : Bool). PumpsRound c ((first ∷ olds) ++ old ∷ []) b ((next ∷ news) ++ new ∷ []) d) (shared now later f)
    (pump.more c mid d first next (olds ++ old ∷ []) (news ++ new ∷ []) now (later || f) h (round_push mid olds later news at d old new f rest turn))
