-- A run of turns.
use Rattle.std.proofs.Common.{◌≡◌, ◌⊎◌, ℕ, Bool, true, false, List, [], ◌∷◌, ◌++◌, Option, Some, None, inl, inr, refl, sym, ap, ◌∙◌, subst, append_assoc, append-nil}
use Rattle.std.proofs.lemmas.List.{map-append}
use Rattle.std.specs.Option.{option_map}
use Rattle.rig_io.specs.Fault.{StaysUnless}
use Rattle.rig_io.specs.Link.{Piece}
use Rattle.table_lock.specs.declared.machine.Entry.{Entry}
use Rattle.table_lock.specs.Lock.{entry}
use Rattle.table_lock.specs.Passes.{PassView, IsExtended, IsSound}
use Rattle.table_lock.proofs.Extends.{extended_more, extended_none}
use Rattle.rib_core.specs.Recorded.{IsLawful}
use Rattle.table_model.specs.declared.command.Command.{Command}
use Rattle.table_model.specs.declared.command.Config.{Config}
use Rattle.table_model.specs.declared.reply.Reply.{Reply}
use Rattle.table_model.specs.Event.{Event}
use Rattle.session_engine.specs.Stands.{own}
use Rattle.server_turns.specs.Making.{MadeLast, Makes}
use Rattle.server_turns.specs.Past.{Past, nothing}
use Rattle.server_turns.specs.Serving.{Account}
use Rattle.server_turns.specs.Turning.{During, behind}

pieces_none : (first : Option (List Piece)) → first ≡ option_map (λ told. told ++ []) first
pieces_none None = refl
pieces_none (Some told) = ap (λ (l : List Piece). (let o : Option (List Piece) = Some l in o)) (sym (append-nil told))

pieces_then : (first : Option (List Piece)) (xs ys : List Piece) →
    option_map (λ told. told ++ ys) (option_map (λ told. told ++ xs) first) ≡ option_map (λ told. told ++ (xs ++ ys)) first
pieces_then None xs ys = refl
pieces_then (Some told) xs ys = ap (λ (l : List Piece). (let o : Option (List Piece) = Some l in o)) (append_assoc told xs ys)

module _ (config : Config) where
  extended_then : (p q r : PassView Command Reply Config) (xs ys : List Event) → IsExtended IsLawful config p q (own p.number xs) →
      IsExtended IsLawful config q r (own q.number ys) → IsExtended IsLawful config p r (own p.number (xs ++ ys))
  extended_then p q r xs ys h k =
      let same : own q.number ys ≡ own p.number ys = ap (λ (n : ℕ). own n ys) h.same.2 in
      let joined : own p.number xs ++ own q.number ys ≡ own p.number (xs ++ ys) =
      ap (λ (l : List (Entry Command Reply)). own p.number xs ++ l) same ∙ sym (map-append (λ (e : Event). entry p.number e.command e.reply) xs ys) in
      subst (λ (l : List (Entry Command Reply)). IsExtended IsLawful config p r l) joined
      (extended_more IsLawful config p q r (own p.number xs) (own q.number ys) h k)

  pub makes_then : (spent : Bool) (p q r : PassView Command Reply Config) (xs ys : List Event) → Makes config false p q xs →
      Makes config spent q r ys → Makes config spent p r (xs ++ ys)
  makes_then false p q r xs ys h k = extended_then p q r xs ys h k
  makes_then true p q r xs ys h k = (k.0, extended_then p q k.0 xs ys h k.1, k.2, k.3)

  pub made_last : (p q : PassView Command Reply Config) (did : List Event) → Makes config false p q did → MadeLast q did
  made_last p q did h = (p.mine, h.mine ∙ ap (λ (n : ℕ). p.mine ++ own n did) (sym h.same.2))

  -- So a run stands behind its turns: what the link told since it began, what the pass made, and how the connection was used.
  abbrev pub Ran : Option (List Piece) → Option (List Piece) → Bool → PassView Command Reply Config → PassView Command Reply Config →
      (Past → Account → Type 0) → Type 0
  Ran first now spent p q stands = (past : Past) × (a : Account) × (now ≡ option_map (λ told. told ++ past.pieces) first)
      × Makes config spent p q past.own × stands past a

  pub ran_none : (told : Option (List Piece)) (p : PassView Command Reply Config) (stands : Past → Account → Type 0) → IsSound IsLawful config p →
      (a : Account) × stands nothing a → Ran told told false p p stands
  ran_none told p stands sound h = (nothing, h.0, pieces_none told, extended_none IsLawful config p sound, h.1)

  pub ran_more : (first mid now : Option (List Piece)) (spent : Bool) (p q r : PassView Command Reply Config) (stands stands' : Past → Account → Type 0) →
      ((past : Past) (before : Account) → stands past before → MadeLast q past.own → (turn : During) × (after : Account)
      × (now ≡ option_map (λ told. told ++ turn.pieces) mid) × Makes config spent q r turn.own × stands' (behind turn past) after) →
      Ran first mid false p q stands → Ran first now spent p r stands'
  ran_more first mid now spent p q r stands stands' goes h =
      (let past : Past = h.0 in
      let g = goes past h.1 h.4 (made_last p q past.own h.3) in
      let turn : During = g.0 in (
        behind turn past,
        g.1,
        g.2 ∙ (ap (λ (o : Option (List Piece)). option_map (λ told. told ++ turn.pieces) o) h.2 ∙ pieces_then first past.pieces turn.pieces),
        makes_then spent p q r past.own turn.own h.3 g.3,
        g.4,
      ))

-- no fault, so the count is as it was
pub unfaulted : (before now : ℕ) (failed : Type 0) → (failed → ⊥) → StaysUnless before now failed → now ≡ before
unfaulted before now failed fine (inl h) = absurd (fine h)
unfaulted before now failed fine (inr e) = e
