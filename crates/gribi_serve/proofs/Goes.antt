-- How a served link goes on by a turn.
use Rattle.std.proofs.Common.{◌≡◌, ℕ, Bool, true, false, List, [], ◌++◌, Option, Some, None, refl, sym, ap, ◌∙◌, subst, append_assoc}
use Rattle.std.proofs.lemmas.List.{map-append}
use Rattle.std.specs.Option.{option_map}
use Rattle.rig_io.specs.Fault.{HasCause, StaysUnless}
use Rattle.rig_io.specs.Link.{Piece}
use Rattle.table_lock.specs.declared.machine.Entry.{Entry}
use Rattle.table_lock.specs.Lock.{entry}
use Rattle.table_lock.specs.Passes.{IsExtended, IsPassOf, IsSound, LockView, PassView}
use Rattle.rib_core.specs.Recorded.{IsLawful}
use Rattle.table_model.specs.declared.command.Command.{Command}
use Rattle.table_model.specs.declared.command.Config.{Config}
use Rattle.table_model.specs.declared.reply.Reply.{Reply}
use Rattle.table_model.specs.Event.{Event}
use Rattle.session_engine.specs.Stands.{own}
use Rattle.call_answers.specs.declared.orders.Setting.{Setting}
use Rattle.link_serving.specs.declared.service.Ended.{Ended}
use Rattle.server_turns.specs.declared.outcome.Outcome.{Outcome}
use Rattle.server_turns.specs.declared.outcome.TurnEnd.{TurnEnd}
use Rattle.server_turns.specs.declared.outcome.TurnEnd.TheVariants.{Progress, Idle, Over}
use Rattle.server_turns.specs.Making.{MadeLast, Makes}
use Rattle.server_turns.specs.Past.{Past, nothing}
use Rattle.server_turns.specs.Serving.{Account, Serves}
use Rattle.server_turns.specs.Turning.{During, IsFault, MayFail, behind, is_spent, outcome_of}
use Rattle.server_turns.proofs.Runs.{ran_more, ran_none, unfaulted}
use Rattle.gribi_serve.specs.Links.{FaultsAre, IsServed, IsServedSoFar, MayGoOn, ended_by}

-- what a turn says of the link's failures
pub faults_of : (end : TurnEnd) (before now : ℕ) → HasCause before now (IsFault end) × StaysUnless before now (MayFail end) → FaultsAre (outcome_of end) before now
faults_of Progress before now h = unfaulted before now _ (λ failed. failed) h.1
faults_of Idle before now h = unfaulted before now _ (λ failed. failed) h.1
faults_of (Over outcome) before now h = h

faults_then : (outcome : Option Outcome) (first mid now : ℕ) → mid ≡ first → FaultsAre outcome mid now → FaultsAre outcome first now
faults_then outcome first mid now e h = subst (λ (n : ℕ). FaultsAre outcome n now) e h

module _ (config : Config) where
  extended_last : (p q : PassView Command Reply Config) (xs ys : List Event) → IsExtended IsLawful config p q (own p.number ys) → MadeLast p xs → MadeLast q (xs ++ ys)
  extended_last p q xs ys h last =
      let number : q.number ≡ p.number = h.same.2 in
      let joined : own p.number xs ++ own p.number ys ≡ own p.number (xs ++ ys) = sym (map-append (λ (e : Event). entry p.number e.command e.reply) xs ys) in (
        last.0,
        h.mine ∙ (ap (λ (l : List (Entry Command Reply)). l ++ own p.number ys) last.1 ∙ (append_assoc last.0 (own p.number xs) (own p.number ys)
            ∙ (ap (λ (l : List (Entry Command Reply)). last.0 ++ l) joined ∙ ap (λ (n : ℕ). last.0 ++ own n (xs ++ ys)) (sym number)))),
      )

  made_then : (spent : Bool) (p q : PassView Command Reply Config) (xs ys : List Event) → MadeLast p xs → Makes config spent p q ys → MadeLast q (xs ++ ys)
  made_then false p q xs ys last h = extended_last p q xs ys h last
  made_then true p q xs ys last h =
      let made = extended_last p h.0 xs ys h.1 last in (
        made.0,
        ap (λ (r : PassView Command Reply Config). r.mine) h.2 ∙ (made.1 ∙ ap (λ (n : ℕ). made.0 ++ own n (xs ++ ys)) (sym (ap (λ (r : PassView Command Reply Config). r.number) h.2))),
      )

  sound_then : (spent : Bool) (p q : PassView Command Reply Config) (ys : List Event) → Makes config spent p q ys → IsSound IsLawful config q
  sound_then false p q ys h = h.sound
  sound_then true p q ys h = subst (λ (r : PassView Command Reply Config). IsSound IsLawful config r) (sym h.2) (record { legal = h.1.sound.legal; own = h.1.sound.own })

-- what a turn leads to: from each past and account, the next ones
abbrev pub Leads : (Past → Account → Type 0) → (Past → Account → Type 0) → Option (List Piece) → Option (List Piece) → Config → Bool → PassView Command Reply Config
    → PassView Command Reply Config → Type 0
Leads stands stands' before now config spent p q = (past : Past) (a : Account) → stands past a → MadeLast p past.own → (turn : During) × (after : Account)
    × (now ≡ option_map (λ told. told ++ turn.pieces) before) × Makes config spent p q turn.own × stands' (behind turn past) after

module _ (lock : LockView Config) where
  may_more : (stands stands' : Past → Account → Type 0) (before now : Option (List Piece)) (spent : Bool) (p q : PassView Command Reply Config)
      → Leads stands stands' before now lock.setup spent p q → IsPassOf lock q → MayGoOn lock stands p → MayGoOn lock stands' q
  may_more stands stands' before now spent p q goes is h =
      let g = goes h.past h.account h.stands h.made in record {
        pass_is = is;
        sound = sound_then lock.setup spent p q g.0.own g.3;
        past = behind g.0 h.past;
        account = g.1;
        stands = g.4;
        made = made_then lock.setup spent p q h.past.own g.0.own h.made g.3;
      }

  pub may_begin : (stands : Past → Account → Type 0) (p : PassView Command Reply Config) → IsPassOf lock p → IsSound IsLawful lock.setup p → p.mine ≡ []
      → (a : Account) × stands nothing a → MayGoOn lock stands p
  may_begin stands p is sound none h = record { pass_is = is; sound = sound; past = nothing; account = h.0; stands = h.1; made = ([], none) }

module _ {L : Type 0} (pieces : L → Option (List Piece)) (faults : L → ℕ) (config : Config) (first : L) where
  served_more : (stands stands' : Past → Account → Type 0) (link link' : L) (outcome : Option Outcome) (p q : PassView Command Reply Config)
      → Leads stands stands' (pieces link) (pieces link') config (is_spent outcome) p q → FaultsAre outcome (faults link) (faults link')
      → IsServedSoFar pieces faults stands config first link p None → IsServedSoFar pieces faults stands' config first link' q outcome
  served_more stands stands' link link' outcome p q goes failed h =
      let r = ran_more config (pieces first) (pieces link) (pieces link') (is_spent outcome) h.begun p q stands stands' goes (h.past, h.account, h.told, h.makes, h.stands) in record {
        begun = h.begun;
        unused = h.unused;
        past = r.0;
        account = r.1;
        told = r.2;
        makes = r.3;
        stands = r.4;
        fault = faults_then outcome (faults first) (faults link) (faults link') h.fault failed;
      }

  pub served_none : (stands : Past → Account → Type 0) (p : PassView Command Reply Config) → IsSound IsLawful config p → p.mine ≡ []
      → (a : Account) × stands nothing a → IsServedSoFar pieces faults stands config first first p None
  served_none stands p sound none h =
      let r = ran_none config (pieces first) p stands sound h in record {
        begun = p;
        unused = none;
        past = r.0;
        account = r.1;
        told = r.2;
        makes = r.3;
        stands = r.4;
        fault = refl;
      }

  pub served_all : (s : Setting) (stands : Past → Account → Option Outcome → Type 0) (outcome : Option Outcome) (over : Outcome) (link : L) (p : PassView Command Reply Config) (end : Ended)
      → ((past : Past) (a : Account) (o : Option Outcome) → stands past a o → Serves s past a o) → outcome ≡ Some over → end ≡ ended_by outcome
      → IsServedSoFar pieces faults (λ past a. stands past a outcome) config first link p outcome → IsServed pieces faults config s first link p end
  served_all s stands outcome over link p end serves e is h = (over, is ∙ ap ended_by e, done (Some over) (subst (λ (o : Option Outcome). IsServedSoFar pieces faults (λ past a. stands past a o) config first link p o) e h))
    where
      done : (o : Option Outcome) → IsServedSoFar pieces faults (λ past a. stands past a o) config first link p o → IsServedSoFar pieces faults (λ past a. Serves s past a o) config first link p o
      done o h = record {
        begun = h.begun;
        unused = h.unused;
        past = h.past;
        account = h.account;
        told = h.told;
        makes = h.makes;
        stands = serves h.past h.account o h.stands;
        fault = h.fault;
      }

-- a turn of a connection that isn't over, in the words of its contract
module _ (lock lock' : LockView Config) (s s' : Setting) (stands stands' : Setting → Past → Account → Option Outcome → Type 0) (outcome now r : Option Outcome) (told told' : Option (List Piece))
    (p q : PassView Command Reply Config) where
  abbrev pub Turns : Type 0
  Turns = (past : Past) (a : Account) → stands s' past a None → MadeLast p past.own → (turn : During) × (after : Account)
      × (told' ≡ option_map (λ told. told ++ turn.pieces) told) × Makes lock'.setup (is_spent r) p q turn.own × stands' s' (behind turn past) after r

  leads_by : lock' ≡ lock → s' ≡ s → outcome ≡ None → now ≡ r → Turns
      → Leads (λ past a. stands s past a outcome) (λ past a. stands' s past a now) told told' lock.setup (is_spent r) p q
  leads_by el es e en goes past a h last =
      let k = goes past a (subst (λ (t : Setting). stands t past a None) (sym es) (subst (λ (o : Option Outcome). stands s past a o) e h)) last in (
        k.0,
        k.1,
        k.2,
        subst (λ (l : LockView Config). Makes l.setup (is_spent r) p q k.0.own) el k.3,
        subst (λ (o : Option Outcome). stands' s (behind k.0 past) k.1 o) (sym en) (subst (λ (t : Setting). stands' t (behind k.0 past) k.1 r) es k.4),
      )

  pub keeps_by : lock' ≡ lock → s' ≡ s → outcome ≡ None → now ≡ r → Turns → IsPassOf lock' q
      → MayGoOn lock (λ past a. stands s past a outcome) p → MayGoOn lock (λ past a. stands' s past a now) q
  keeps_by el es e en goes is h =
      may_more lock (λ past a. stands s past a outcome) (λ past a. stands' s past a now) told told' (is_spent r) p q (leads_by el es e en goes)
      (subst (λ (l : LockView Config). IsPassOf l q) el is) h

  -- a past and an account with which the turn began
  pub first_of : {X : Type 0} → s' ≡ s → outcome ≡ None → MayGoOn lock (λ past a. stands s past a outcome) p → ((past : Past) (a : Account) → stands s' past a None → X) → X
  first_of es e h then = then h.past h.account (subst (λ (t : Setting). stands t h.past h.account None) (sym es) (subst (λ (o : Option Outcome). stands s h.past h.account o) e h.stands))

module _ {L : Type 0} (pieces : L → Option (List Piece)) (faults : L → ℕ) (lock lock' : LockView Config) (s s' : Setting)
    (stands stands' : Setting → Past → Account → Option Outcome → Type 0) (outcome now r : Option Outcome) (first link link' : L) (p q : PassView Command Reply Config) where
  pub serves_by : lock' ≡ lock → s' ≡ s → outcome ≡ None → now ≡ r → Turns lock lock' s s' stands stands' outcome now r (pieces link) (pieces link') p q
      → FaultsAre r (faults link) (faults link') → IsServedSoFar pieces faults (λ past a. stands s past a outcome) lock.setup first link p outcome
      → IsServedSoFar pieces faults (λ past a. stands' s past a now) lock.setup first link' q now
  serves_by el es e en goes failed h =
      subst (λ (o : Option Outcome). IsServedSoFar pieces faults (λ past a. stands' s past a now) lock.setup first link' q o) (sym en)
      (served_more pieces faults lock.setup first (λ past a. stands s past a outcome) (λ past a. stands' s past a now) link link' r p q
      (leads_by lock lock' s s' stands stands' outcome now r (pieces link) (pieces link') p q el es e en goes) failed
      (subst (λ (o : Option Outcome). IsServedSoFar pieces faults (λ past a. stands s past a outcome) lock.setup first link p o) e h))

-- what is known of a pass by another name of the lock
pub pass_moved : (lock named : LockView Config) → lock ≡ named → (p : PassView Command Reply Config) → IsPassOf lock p → IsPassOf named p
pass_moved lock named e p is = subst (λ (l : LockView Config). IsPassOf l p) e is

pub sound_moved : (lock named : LockView Config) → lock ≡ named → (p : PassView Command Reply Config) → IsSound IsLawful lock.setup p → IsSound IsLawful named.setup p
sound_moved lock named e p sound = subst (λ (l : LockView Config). IsSound IsLawful l.setup p) e sound
