-- What an election keeps after one more event.
use Rattle.std.proofs.Common.{◌≡◌, ℕ, ◌≤◌, ◌<◌, true, false, List, ◌∷◌, Some, sym, ap, ◌∙◌, arith}
use Rattle.std.specs.Prelude.{max, nat_le}
use Rattle.std.proofs.lemmas.Bool.Decides.{nat_tests}
use Rattle.table_model.specs.Event.{Event}
use Rattle.table_model.specs.Sessions.{is_live}
use Rattle.table_model.specs.Election.{other_than, highest}
use Rattle.table_model.proofs.ElectionLemmas.{announced_highest, announced_top, announced_other, left_primary, left_highest}
use Rattle.election.specs.ElectionState.{ElectionState, StandsFor, announced, left}

module _ (election_state : ElectionState) (session id told : ℕ) (past : List Event) (stands : StandsFor election_state past) where
  pub wins : is_live past session ≡ true → election_state.highest ≤ id → StandsFor (record { highest = max id election_state.highest; primary = Some session }) (announced session id told ∷ past)
  wins alive h =
      let test : nat_le (highest past) id ≡ true = rw (← stands.highest) (grind (arith, nat_tests)) in
      record {
        highest = ap (max id) stands.highest ∙ sym (announced_highest session id told past);
        primary = sym (announced_top session id told past alive test);
      }

  pub loses : id < election_state.highest → StandsFor (record { highest = max id election_state.highest; primary = other_than session election_state.primary }) (announced session id told ∷ past)
  loses h =
      let test : nat_le (highest past) id ≡ false = rw (← stands.highest) (grind (arith, nat_tests)) in
      record {
        highest = ap (max id) stands.highest ∙ sym (announced_highest session id told past);
        primary = ap (other_than session) stands.primary ∙ sym (announced_other session id told past test);
      }

pub leaves : (election_state : ElectionState) (session : ℕ) (past : List Event) → StandsFor election_state past → StandsFor (record { highest = election_state.highest; primary = other_than session election_state.primary }) (left session ∷ past)
leaves election_state session past stands = record {
  highest = stands.highest ∙ sym (left_highest session past);
  primary = ap (other_than session) stands.primary ∙ sym (left_primary session past);
}
