-- Each entry that a connection made is answered as the table answers.
use Rattle.std.proofs.Common.{◌≡◌, ◌⊎◌, inl, inr, ℕ, ◌==◌, Bool, true, false, map, reverse, List, [], ◌∷◌, ◌++◌, length, refl, sym, ap, subst, ◌∙◌, if◌then◌else◌}
use Rattle.std.specs.Prelude.{filter}
use Rattle.std.proofs.lemmas.List.{map-append, reverse-append}
use Rattle.table_lock.specs.declared.machine.Entry.{Entry}
use Rattle.table_lock.specs.Passes.{IsSound, PassView}
use Rattle.rib_core.specs.Recorded.{IsLawful, event_of, recorded}
use Rattle.table_model.specs.declared.command.Command.{Command}
use Rattle.table_model.specs.declared.command.Command.TheVariants as command
use Rattle.table_model.specs.declared.command.Config.{Config}
use Rattle.table_model.specs.declared.reply.Reply.{Reply}
use Rattle.table_model.specs.declared.reply.Reply.TheVariants as reply
use Rattle.table_model.specs.Event.{Event, events}
use Rattle.table_model.specs.Legal.{IsAnswer, Legal}
use Rattle.table_model.specs.Reply.{is_gone, is_halted, reply_to}
use Rattle.call_answers.specs.Ends.{status_by}
use Rattle.call_orders.specs.Actions.{leave}
use Rattle.call_orders.specs.Orders.{is_stopped_by}
use Rattle.call_orders.specs.Owed.{end_items, has_end}
use Rattle.call_orders.proofs.Doing.{Each, each_at, each_first}
use Rattle.session_engine.specs.Stands as engine
use Rattle.server_turns.specs.Making.{MadeLast}

-- the table answers so behind some past
abbrev pub IsAnswered : Config → Event → Type 0
IsAnswered config e = (past : List Event) × IsAnswer config past e

each_legal : (config : Config) (es : List Event) → Legal config es → Each (IsAnswered config) es
unfolding Each
each_legal config [] h = tt
each_legal config (e ∷ earlier) h = ((events earlier, h.0), each_legal config earlier h.1)

pub each_behind : {A : Type 0} (P : A → Type 0) (xs ys : List A) → Each P (xs ++ ys) → Each P ys
unfolding Each
each_behind P [] ys h = h
each_behind P (x ∷ xs) ys h = each_behind P xs ys h.1

each_reverse : {A : Type 0} (P : A → Type 0) (xs : List A) → Each P (reverse xs) → Each P xs
unfolding Each
each_reverse P [] h = tt
each_reverse {A} P (x ∷ xs) h =
    let turned : Each P (reverse xs ++ x ∷ []) = subst (λ (l : List A). Each P l) (reverse-append (x ∷ []) xs) h in
    (each_at P (reverse xs) x [] turned, each_reverse P xs (each_first P (reverse xs) (x ∷ []) turned))

each_kept : (P : Event → Type 0) (test : Entry Command Reply → Bool) (calls : List (Entry Command Reply)) → Each P (map event_of calls) →
    Each P (map event_of (filter test calls))
unfolding Each
each_kept P test [] h = tt
each_kept P test (x ∷ xs) h = by (each_kept P test xs h.1) (test x)
  where
    by : Each P (map event_of (filter test xs)) → (b : Bool) → Each P (map event_of (if b then x ∷ filter test xs else filter test xs))
    by others true = (h.0, others)
    by others false = others

pub own_back : (n : ℕ) (es : List Event) → map event_of (engine.own n es) ≡ es
own_back n [] = refl
own_back n (e ∷ es) = ap (λ (l : List Event). e ∷ l) (own_back n es)

pub answered : (config : Config) (p : PassView Command Reply Config) (own : List Event) → IsSound IsLawful config p → MadeLast p own →
    Each (IsAnswered config) own
answered config p own sound last =
    let P : Event → Type 0 = IsAnswered config in
    let all : Each P (map event_of p.seen) = each_reverse P (map event_of p.seen) (each_legal config (recorded p.seen) sound.legal) in
    let mine : Each P (map event_of p.mine) = subst (λ (l : List (Entry Command Reply)). Each P (map event_of l)) sound.own
    (each_kept P (λ e. e.by == p.number) p.seen all) in
    let split : Each P (map event_of last.0 ++ map event_of (engine.own p.number own)) = subst (Each P)
    (ap (λ (l : List (Entry Command Reply)). map event_of l) last.1 ∙ map-append event_of last.0 (engine.own p.number own)) mine in
    subst (Each P) (own_back p.number own) (each_behind P (map event_of last.0) (map event_of (engine.own p.number own)) split)

-- ---- what commands are answered

-- a Leave is never answered Stopped
pub leave_unstopped : (config : Config) (session : ℕ) (said : Reply) → IsAnswered config (leave session said) → is_stopped_by said ≡ false
unfolding reply_to
leave_unstopped config session said (past, inl is) = ap is_stopped_by is ∙ by (is_gone past (command.Leave session))
  where
    by : (b : Bool) → is_stopped_by (if b then reply.Gone else reply.Left) ≡ false
    by true = refl
    by false = refl
leave_unstopped config session said (past, inr (is, may)) = ap is_stopped_by is

abbrev pub BeginsOrEnds : Reply → Type 0
BeginsOrEnds said = ((session : ℕ) × (said ≡ reply.Began session)) ⊎ (has_end (end_items (status_by false said)) ≡ true)

-- a Begin is answered with a session, or so that its call ends
pub begin_answered : (config : Config) (said : Reply) → IsAnswered config (record { command = command.Begin; reply = said }) → BeginsOrEnds said
unfolding reply_to
begin_answered config said (past, inl is) = subst BeginsOrEnds (sym is) (by (is_halted past) (is_gone past command.Begin))
  where
    by : (b c : Bool) → BeginsOrEnds (if b then reply.Stopped else if c then reply.Gone else reply.Began (length past))
    by true c = inr refl
    by false true = inr refl
    by false false = inl (length past, refl)
begin_answered config said (past, inr (is, may)) = subst BeginsOrEnds (sym is) (inr refl)
