-- First parts of what a stream is owed.
use Rattle.std.proofs.Common.{◌≡◌, ℕ, true, List, [], ◌∷◌, ◌++◌, Option, Some, None, refl, ap}
use Rattle.std.specs.List.{list_any}
use Rattle.grpc_framing.specs.Framing.{item}
use Rattle.grpc_heads.specs.CallEnd.{CallEnd}
use Rattle.h2_exchange.specs.StreamParts.{Item, Message, Finish, IsPrefixOf, IsMessageFirst}
use Rattle.grpc_stream.specs.CallTrace as trace
use Rattle.call_orders.specs.Owed.{has_end}

module _ {E : Type 0} where
  -- without an end it is one of any items that go on
  pub first_goes_on : (messages : List (List ℕ)) (rest : List ℕ) (end : Option E) (xs ys : List (Item E)) → end ≡ None →
      IsPrefixOf messages rest end xs → IsPrefixOf messages rest end (xs ++ ys)
  first_goes_on (m ∷ ms) rest end (Message n ∷ xs) ys none (same, others) = (same, first_goes_on ms rest end xs ys none others)
  first_goes_on (m ∷ ms) rest end (Finish e ∷ xs) ys none h = absurd h
  first_goes_on (m ∷ ms) rest end [] ys none h = absurd h
  first_goes_on [] rest (Some end) xs ys none h = absurd cc
  first_goes_on [] rest None (Message n ∷ xs) ys none h = h
  first_goes_on [] rest None (Finish e ∷ xs) ys none h = h
  first_goes_on [] rest None [] ys none h = at_end ys h
    where
      at_end : (ys : List (Item E)) → rest ≡ [] → IsPrefixOf [] rest (let o : Option E = None in o) ys
      at_end [] h = h
      at_end (Message n ∷ ys) h = (item n, ap (λ (l : List ℕ). l ++ item n) h)
      at_end (Finish e ∷ ys) h = h

  -- and without the last end of the items
  pub first_before_end : (messages : List (List ℕ)) (rest : List ℕ) (end : Option E) (xs : List (Item E)) (e : E) → end ≡ None →
      IsPrefixOf messages rest end (xs ++ Finish e ∷ []) → IsPrefixOf messages rest end xs
  first_before_end (m ∷ ms) rest end (Message n ∷ xs) e none (same, others) = (same, first_before_end ms rest end xs e none others)
  first_before_end (m ∷ ms) rest end (Finish f ∷ xs) e none h = absurd h
  first_before_end (m ∷ ms) rest end [] e none h = absurd h
  first_before_end [] rest (Some end) xs e none h = absurd cc
  first_before_end [] rest None (Message n ∷ xs) e none h = h
  first_before_end [] rest None (Finish f ∷ xs) e none h = h
  first_before_end [] rest None [] e none h = h

pub message_first : (xs ys : List (Item CallEnd)) → IsMessageFirst xs → IsMessageFirst (xs ++ ys)
message_first (Message m ∷ xs) ys h = tt
message_first (Finish e ∷ xs) ys h = absurd h
message_first [] ys h = absurd h

pub message_before_end : (xs : List (Item CallEnd)) (e : CallEnd) → IsMessageFirst (xs ++ Finish e ∷ []) → IsMessageFirst xs
message_before_end (Message m ∷ xs) e h = tt
message_before_end (Finish f ∷ xs) e h = absurd h
message_before_end [] e h = absurd h

-- an end stands only where the items have one
pub end_is_owed : (messages : List (List ℕ)) (rest : List ℕ) (end : Option CallEnd) (e : CallEnd) (xs : List (Item CallEnd)) → end ≡ Some e →
    IsPrefixOf messages rest end xs → has_end xs ≡ true
end_is_owed (m ∷ ms) rest end e (Message n ∷ xs) is (same, others) = end_is_owed ms rest end e xs is others
end_is_owed (m ∷ ms) rest end e (Finish f ∷ xs) is h = absurd h
end_is_owed (m ∷ ms) rest end e [] is h = absurd h
end_is_owed [] rest None e xs is h = absurd cc
end_is_owed [] rest (Some end) e (Message n ∷ xs) is h = absurd h
end_is_owed [] rest (Some end) e (Finish f ∷ xs) is h = refl
end_is_owed [] rest (Some end) e [] is h = absurd h

-- both layers tell an end alike
pub same_ends : (xs : List (Item CallEnd)) → list_any trace.is_end xs ≡ has_end xs
same_ends [] = refl
same_ends (Message m ∷ xs) = same_ends xs
same_ends (Finish e ∷ xs) = refl
