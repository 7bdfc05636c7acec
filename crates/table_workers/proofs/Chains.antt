-- The events of the calls that a pass has seen, one call after the other.
use Rattle.std.proofs.Common.{◌≡◌, ◌≢◌, ℕ, Bool, true, false, List, [], ◌∷◌, ◌++◌, refl, sym, ap, ◌∙◌, subst, append_assoc}
use Rattle.std.specs.Prelude.{cond, map, reverse}
use Rattle.std.proofs.lemmas.List.{map-append, reverse-append}
use Rattle.table_model.specs.declared.command.Command.{Command}
use Rattle.table_model.specs.declared.command.Config.{Config}
use Rattle.table_model.specs.declared.reply.Reply.{Reply}
use Rattle.table_model.specs.Event.{Event, events, is_no_memory}
use Rattle.table_model.specs.Laws.{event}
use Rattle.table_model.specs.Legal.{Legal, IsLawful}
use Rattle.table_model.proofs.Lawful.{lawful_events}
use Rattle.fib_worker.specs.Shards.{IsApart, AreApart}
use Rattle.rib_core.specs.Recorded.{event_of, recorded}
use Rattle.table_workers.specs.Working.{Calls, OthersAreApart}

-- the record with these calls behind it
abbrev pub recorded_onto : List Event → Calls → List Event
recorded_onto past [] = past
recorded_onto past (c ∷ calls) = recorded_onto (event_of c ∷ past) calls

onto_is : (past : List Event) (calls : Calls) → recorded_onto past calls ≡ recorded calls ++ past
onto_is past [] = refl
onto_is past (c ∷ calls) =
    onto_is (event_of c ∷ past) calls
    ∙ (sym (append_assoc (recorded calls) (event_of c ∷ []) past)
    ∙ ap (λ (l : List Event). l ++ past) (sym (reverse-append (event_of c ∷ []) (map event_of calls))))

pub recorded_append : (xs ys : Calls) → recorded (xs ++ ys) ≡ recorded_onto (recorded xs) ys
recorded_append xs ys =
    ap (λ (l : List Event). reverse l) (map-append event_of xs ys) ∙ (reverse-append (map event_of xs) (map event_of ys) ∙ sym (onto_is (recorded xs) ys))

pub onto_append : (past : List Event) (xs ys : Calls) → recorded_onto past (xs ++ ys) ≡ recorded_onto (recorded_onto past xs) ys
onto_append past [] ys = refl
onto_append past (x ∷ xs) ys = onto_append (event_of x ∷ past) xs ys

-- a front of a record is legal
pub legal_front : (config : Config) (calls : Calls) (past : List Event) → Legal config (recorded_onto past calls) → Legal config past
legal_front config [] past legal = legal
legal_front config (c ∷ calls) past legal = (legal_front config calls (event_of c ∷ past) legal).1

-- each call is no Take or Report for the shard
abbrev pub AllApart : ℕ → ℕ → List Event → Calls → Type 0
AllApart workers worker past [] = Unit {0}
AllApart workers worker past (c ∷ calls) = IsApart workers worker (events past) c.command × AllApart workers worker (event_of c ∷ past) calls

module _ (config : Config) (worker : ℕ) (P : List Event → Type 0)
    (step : (c : Command) (r : Reply) (past : List Event) → IsLawful config (event c r ∷ past) → IsApart config.workers worker past c → P past → P (event c r ∷ past)) where
  -- a call that was answered NoMemory is no event
  one_step : (c : Command) (r : Reply) (past : List Event) (b : Bool) → is_no_memory r ≡ b → IsLawful config (cond b (events past) (event c r ∷ events past))
      → IsApart config.workers worker (events past) c → P (events past) → P (cond b (events past) (event c r ∷ events past))
  one_step c r past true is lawful apart p = p
  one_step c r past false is lawful apart p = step c r (events past) lawful apart p

  over_all : (calls : Calls) (past : List Event) → Legal config (recorded_onto past calls) → AllApart config.workers worker past calls → P (events past) → P (events (recorded_onto past calls))
  unfolding events
  over_all [] past legal apart p = p
  over_all (c ∷ calls) past legal apart p =
      over_all calls (event_of c ∷ past) legal apart.1
      (one_step c.command c.reply past (is_no_memory c.reply) refl (lawful_events config (event_of c ∷ past) (legal_front config calls (event_of c ∷ past) legal)) apart.0 p)

-- events that came behind others, apart from the shard
abbrev pub Behind : Config → ℕ → List Event → List Event → Type 0
Behind config worker past now = (others : List Event) × (now ≡ others ++ past) × AreApart config.workers worker others past

one_behind : (config : Config) (worker : ℕ) (first : List Event) (c : Command) (r : Reply) (past : List Event) → IsApart config.workers worker past c → Behind config worker first past
    → Behind config worker first (event c r ∷ past)
one_behind config worker first c r past apart p =
    (event c r ∷ p.0, ap (λ (l : List Event). event c r ∷ l) p.1, (subst (λ (l : List Event). IsApart config.workers worker l c) p.1 apart, p.2))

pub behind : (config : Config) (worker : ℕ) (calls : Calls) (past : List Event) → Legal config (recorded_onto past calls) → AllApart config.workers worker past calls
    → Behind config worker (events past) (events (recorded_onto past calls))
behind config worker calls past legal apart =
    over_all config worker (λ l. Behind config worker (events past) l) (λ c r l lawful a p. one_behind config worker (events past) c r l a p) calls past legal apart ([], refl, tt)

-- the others are apart where none of the calls is the pass's own
abbrev pub NoneOwn : ℕ → Calls → Type 0
NoneOwn me [] = Unit {0}
NoneOwn me (c ∷ calls) = (c.by ≢ me) × NoneOwn me calls

pub all_apart : (workers worker me : ℕ) (calls : Calls) (past : List Event) → NoneOwn me calls → OthersAreApart workers worker me past calls → AllApart workers worker past calls
all_apart workers worker me [] past own others = tt
all_apart workers worker me (c ∷ calls) past own others = (others.0 own.0, all_apart workers worker me calls (event_of c ∷ past) own.1 others.1)

-- parts of a stretch
pub others_front : (workers worker me : ℕ) (xs ys : Calls) (past : List Event) → OthersAreApart workers worker me past (xs ++ ys) → OthersAreApart workers worker me past xs
others_front workers worker me [] ys past h = tt
others_front workers worker me (x ∷ xs) ys past h = (h.0, others_front workers worker me xs ys (event_of x ∷ past) h.1)

pub others_back : (workers worker me : ℕ) (xs ys : Calls) (past : List Event) → OthersAreApart workers worker me past (xs ++ ys) → OthersAreApart workers worker me (recorded_onto past xs) ys
others_back workers worker me [] ys past h = h
others_back workers worker me (x ∷ xs) ys past h = others_back workers worker me xs ys (event_of x ∷ past) h.1
