-- Rounds of turns, one after another.
use Rattle.std.proofs.Common.{◌≡◌, ℕ, ◌+◌, ◌<◌, ◌≤◌, ◌||◌, length, map, take, drop, set, get_or, Bool, true, false, List, [], ◌∷◌, ◌++◌, refl, sym, ap, subst, ◌∙◌, append_assoc, arith}
use Rattle.std.proofs.lemmas.List.{append-nil, at_drop_all, at_drop_more, get_or-map, get_or_at, length-append, length-map, map-set, set-get_or, set_at, take_all, take_more}
use Rattle.std.proofs.lemmas.List.Sums.{sum_by-set}
use Rattle.http_connection.specs.ConnectionTrace.{ConnectionTrace}
use Rattle.grpc_framing.specs.CutterState.{CutterState}
use Rattle.kept_calls.specs.declared.call.Call.{Call}
use Rattle.kept_calls.specs.CallState.{CallState, state_of, states}
use Rattle.call_sending.specs.Pumping as pump
use Rattle.call_sending.specs.Pumping.{Lessens, PumpsCall, PumpsCalls, PumpsRound, WentOn, cutters_of, left_in}
use Rattle.call_sending.proofs.Turning.{round_push, round_went, went_more, went_none}

-- rounds that lead to what later rounds make whole
pub record Leads (c : ConnectionTrace) (olds : List CallState) (at : ConnectionTrace) (mids : List CallState) : Type 0 where
  pub went : WentOn c at
  pub leads : (news : List CallState) (d : ConnectionTrace) → PumpsCalls at mids news d → PumpsCalls c olds news d

pub leads_none : (c : ConnectionTrace) (olds : List CallState) → Leads c olds c olds
leads_none c olds = record { went = went_none c; leads = λ news d h. h }

pub leads_on : (c : ConnectionTrace) (olds : List CallState) (at : ConnectionTrace) (mids news : List CallState) (d : ConnectionTrace) → Leads c olds at mids → PumpsRound at mids true news d → Leads c olds d news
leads_on c olds at mids news d h round = record {
  went = went_more c at d h.went (round_went at mids true news d round);
  leads = λ later e more. h.leads later e (pump.round at d e mids news later round more);
}

-- The first of these calls had their turns, and the others are as they were.
pub record HaveTurned (at : ℕ) (c : ConnectionTrace) (olds : List CallState) (g : Bool) (now : List CallState) (d : ConnectionTrace) : Type 0 where
  pub news : List CallState
  pub round : PumpsRound c (take at olds) g news d
  pub now_is : now ≡ news ++ drop at olds
  pub count : length news ≡ at
  pub within : at ≤ length olds

pub none_turned : (c : ConnectionTrace) (olds : List CallState) → HaveTurned 0 c olds false olds c
none_turned c olds = record { news = []; round = pump.none c; now_is = refl; count = refl; within = omega arith }

module _ (at : ℕ) (c : ConnectionTrace) (olds : List CallState) (g : Bool) (now : List CallState) (d : ConnectionTrace) (h : HaveTurned at c olds g now d) where
  next_is : (z : CallState) → at < length olds → now ≡ h.news ++ get_or olds at z ∷ drop (at + 1) olds
  next_is z l = h.now_is ∙ ap (λ (r : List CallState). h.news ++ r) (at_drop_more (λ (r : List CallState). r) olds at z l)

  -- the call whose turn it is is as it was
  here_is : (z : CallState) → at < length olds → get_or now at z ≡ get_or olds at z
  here_is z l = ap (λ (r : List CallState). get_or r at z) (next_is z l) ∙ get_or_at h.news (get_or olds at z) (drop (at + 1) olds) z at h.count

  pub one_more : (old new : CallState) (f : Bool) (e : ConnectionTrace) → at < length olds → old ≡ get_or now at old → PumpsCall d old f new e → HaveTurned (at + 1) c olds (g || f) (set now at new) e
  one_more old new f e l is turn =
      let was : old ≡ get_or olds at old = is ∙ here_is old l in
      record {
        news = h.news ++ new ∷ [];
        round = subst (λ (r : List CallState). PumpsRound c r (g || f) (h.news ++ new ∷ []) e) (sym (take_more olds at old l))
            (subst (λ (x : CallState). PumpsRound c (take at olds ++ x ∷ []) (g || f) (h.news ++ new ∷ []) e) was (round_push c (take at olds) g h.news d e old new f h.round turn));
        now_is = ap (λ (r : List CallState). set r at new) (next_is old l) ∙ set_at h.news (get_or olds at old) (drop (at + 1) olds) new at h.count
            ∙ sym (append_assoc h.news (new ∷ []) (drop (at + 1) olds));
        count = omega (arith, h.count, length-append h.news (new ∷ []));
        within = omega (arith, l);
      }

  pub all_turned : length olds ≤ at → PumpsRound c olds g now d
  all_turned le =
      subst (λ (r : List CallState). PumpsRound c olds g r d) (sym (h.now_is ∙ at_drop_all (λ (r : List CallState). h.news ++ r) olds at le ∙ append-nil h.news))
      (subst (λ (r : List CallState). PumpsRound c r g h.news d) (take_all at olds le) h.round)

  pub went_so_far : WentOn c d
  went_so_far = round_went c (take at olds) g h.news d h.round

-- a call as contracts see it
pub seen : (items : List Call) (at : ℕ) (call : Call) → at < length items → call ≡ get_or items at call → state_of call ≡ get_or (states items) at (state_of call)
seen items at call l is = ap state_of is ∙ sym (get_or-map state_of items at call (state_of call) l)

pub turned_in : (items : List Call) (at : ℕ) (new : Call) (at_next : ℕ) (c : ConnectionTrace) (olds : List CallState) (g : Bool) (d : ConnectionTrace) → HaveTurned at_next c olds g (set (states items) at (state_of new)) d → HaveTurned at_next c olds g (states (set items at new)) d
turned_in items at new at_next c olds g d h = subst (λ (r : List CallState). HaveTurned at_next c olds g r d) (sym (map-set state_of items at new)) h

pub as_many : (items : List Call) → length (states items) ≡ length items
as_many items = length-map items state_of

-- what is kept of a peer stays
pub cutters_kept : (items : List Call) (at : ℕ) (old new : Call) → at < length items → old ≡ get_or items at old → new.cutter ≡ old.cutter → cutters_of (set items at new) ≡ cutters_of items
cutters_kept items at old new l is same =
    let cutter : CallState → CutterState = λ c. c.cutter in
    let was : old.cutter ≡ get_or (map cutter (states items)) at old.cutter =
    ap cutter (seen items at old l is) ∙ sym (get_or-map cutter (states items) at (state_of old) old.cutter (omega (arith, l, as_many items))) in
    ap (map cutter) (map-set state_of items at new) ∙ map-set cutter (states items) at (state_of new)
    ∙ ap (set (map cutter (states items)) at) (same ∙ was) ∙ set-get_or (map cutter (states items)) at old.cutter

either_less : (g f : Bool) (first was now old new : ℕ) → now + old ≡ was + new → Lessens g first was → Lessens f old new → (g || f) ≡ true → now < first
either_less true f first was now old new sum before turn e = omega (arith, before.less refl, turn.least, sum)
either_less false f first was now old new sum before turn e = omega (arith, before.least, turn.less e, sum)

-- One call had its turn, and no call has more left.
pub turn_lessens : (items : List Call) (at : ℕ) (old new : Call) (g f : Bool) (first : ℕ) → at < length items → old ≡ get_or items at old → Lessens g first (left_in (states items)) →
    Lessens f (length old.unsent.items) (length new.unsent.items) → Lessens (g || f) first (left_in (states (set items at new)))
turn_lessens items at old new g f first l is before turn =
    let bytes : CallState → ℕ = λ c. length c.unsent in
    let sum : left_in (states (set items at new)) + length old.unsent.items ≡ left_in (states items) + length new.unsent.items = omega (
      arith,
      ap left_in (map-set state_of items at new),
      sum_by-set bytes (states items) at (state_of new) (state_of old) (omega (arith, l, as_many items)),
      ap bytes (seen items at old l is),
    ) in
    record {
      least = omega (arith, before.least, turn.least, sum);
      less = either_less g f first (left_in (states items)) (left_in (states (set items at new))) (length old.unsent.items) (length new.unsent.items) sum before turn;
    }
