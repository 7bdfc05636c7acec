-- What comes on a server's streams.
use Rattle.std.proofs.Common.{◌≡◌, ℕ, true, List, [], ◌∷◌, ◌++◌, refl, sym, subst, ◌∙◌, append_assoc}
use Rattle.std.specs.List.{list_any}
use Rattle.std.proofs.lemmas.List.{append-nil}
use Rattle.h2_exchange.specs.declared.role.Role.TheVariants.{Server}
use Rattle.h2_exchange.specs.Calls.{is_ended_on}
use Rattle.h2_exchange.specs.Events.{Event, Head, Data, Ended, Reset, GoneAway}
use Rattle.h2_exchange.proofs.Answered.{events_come_in_order}
use Rattle.h2_exchange.proofs.Places as place
use Rattle.h2_exchange.proofs.Places.{AreInOrder, MayCome, closes_on, ended_closes, weaker}
use Rattle.call_hearing.specs.Laws.{ComesIn, ServersHear}
use Rattle.call_hearing.specs.Listening.{brings_on, heads_on}
use Rattle.call_hearing.proofs.First.{Follow, heads_come_first}

order_at : (past before : List Event) (e : Event) (later : List Event) → AreInOrder past (before ++ e ∷ later) → MayCome (past ++ before) e
order_at past [] e later h = subst (λ (l : List Event). MayCome l e) (sym (append-nil past)) h.0
order_at past (b ∷ before) e later h = subst (λ (l : List Event). MayCome l e) (append_assoc past (b ∷ []) before) (order_at (past ++ b ∷ []) before e later h.1)

follow_at : (past before : List Event) (e : Event) (later : List Event) → Follow past (before ++ e ∷ later) → (k : ℕ) → brings_on k e ≡ true → list_any (heads_on k) (past ++ before) ≡ true
follow_at past [] e later h k b = subst (λ (l : List Event). list_any (heads_on k) l ≡ true) (sym (append-nil past)) (h.0 k b)
follow_at past (c ∷ before) e later h k b =
    subst (λ (l : List Event). list_any (heads_on k) l ≡ true) (append_assoc past (c ∷ []) before) (follow_at (past ++ c ∷ []) before e later h.1 k b)

comes : (past : List Event) (e : Event) → ComesIn Server past e → MayCome past e
comes past e (limits, heads, x, later, known, answered, is) =
    order_at [] past e later (subst (AreInOrder []) is (events_come_in_order limits heads x answered))

same_heads : (k : ℕ) (e : Event) → place.heads_on k e ≡ heads_on k e
same_heads k (Head stream fields last) = refl
same_heads k (Data stream bytes) = refl
same_heads k (Ended stream) = refl
same_heads k (Reset stream why) = refl
same_heads k (GoneAway stream why) = refl

same_brings : (k : ℕ) (e : Event) → place.brings_on k e ≡ brings_on k e
same_brings k (Head stream fields last) = refl
same_brings k (Data stream bytes) = refl
same_brings k (Ended stream) = refl
same_brings k (Reset stream why) = refl
same_brings k (GoneAway stream why) = refl

pub servers_hear : ServersHear
servers_hear = record {
  one_head = λ past e id c h. weaker (place.heads_on id) (heads_on id) (λ x on. same_heads id x ∙ on) past ((comes past e c).once id (same_heads id e ∙ h));
  head_first = λ past e id c h. first past e c id h;
  end_last = λ past e id c h. weaker (closes_on id) (is_ended_on id) (ended_closes id) past ((comes past e c).goes id (same_brings id e ∙ h));
}
  where
    first : (past : List Event) (e : Event) → ComesIn Server past e → (id : ℕ) → brings_on id e ≡ true → list_any (heads_on id) past ≡ true
    first past e (limits, heads, x, later, known, answered, is) id h =
        follow_at [] past e later (subst (Follow []) is (heads_come_first limits heads x answered known.enough)) id h
