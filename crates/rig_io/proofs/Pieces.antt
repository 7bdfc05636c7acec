-- A call that passed bytes adds a piece.
use Rattle.std.proofs.Common.{◌≡◌, ℕ, ◌+◌, ◌-◌, ◌≤◌, zero, suc, List, [], ◌∷◌, ◌++◌, length, take, drop, refl, sym, ap, ◌∙◌, arith}
use Rattle.std.proofs.Common.{subst}
use Rattle.std.proofs.lemmas.List.{length-take, take_rest}
use Rattle.rig_io.proofs.Fronts.{front, given_and_front}
use Rattle.rig_io.specs.Link.{Piece, received, sent}
use Rattle.rig_io.specs.declared.mem_link.Transfer.{Transfer}
use Rattle.rig_io.specs.declared.mem_link.Transfer.TheVariants as transfer
use Rattle.rig_io.specs.MemLinks.{pieces_of, received_count, sent_count}

take_front : (n : ℕ) (xs ys : List ℕ) → n ≤ length xs → take n (xs ++ ys) ≡ take n xs
take_front zero xs ys le = refl
take_front (suc n) [] ys le = absurd (omega arith)
take_front (suc n) (x ∷ xs) ys le = ap (λ (l : List ℕ). x ∷ l) (take_front n xs ys (omega arith))

drop_front : (n : ℕ) (xs ys : List ℕ) → n ≤ length xs → drop n (xs ++ ys) ≡ drop n xs ++ ys
drop_front zero xs ys le = refl
drop_front (suc n) [] ys le = absurd (omega arith)
drop_front (suc n) (x ∷ xs) ys le = drop_front n xs ys (omega arith)

drop_length : (n : ℕ) (xs : List ℕ) → length (drop n xs) ≡ length xs - n
drop_length zero xs = omega arith
drop_length (suc n) [] = omega arith
drop_length (suc n) (x ∷ xs) = drop_length n xs ∙ omega arith

take_all : (xs : List ℕ) → take (length xs) xs ≡ xs
take_all [] = refl
take_all (x ∷ xs) = ap (λ (l : List ℕ). x ∷ l) (take_all xs)

none : (xs : List ℕ) → length xs ≡ 0 → xs ≡ []
none [] h = refl
none (x ∷ xs) h = absurd (omega arith)

pub receives : (ms : List Transfer) (got x put : List ℕ) → received_count ms ≡ length got → pieces_of (ms ++ transfer.Received (length x) ∷ []) (got ++ x) put ≡ pieces_of ms got put ++ received x ∷ []
receives [] got x put h = let e = none got (sym h) in rw e (ap (λ (l : List ℕ). received l ∷ []) (take_all x))
receives (transfer.Sent n ∷ ms) got x put h = ap (λ (l : List Piece). sent (take n put) ∷ l) (receives ms got x (drop n put) h)
receives (transfer.Received n ∷ ms) got x put h =
    let le : n ≤ length got = omega (arith, h) in
    let rest = receives ms (drop n got) x put (omega (arith, h, drop_length n got)) in
    rw (take_front n got x le, drop_front n got x le) (ap (λ (l : List Piece). received (take n got) ∷ l) rest)

pub sends : (ms : List Transfer) (got put x : List ℕ) → sent_count ms ≡ length put → pieces_of (ms ++ transfer.Sent (length x) ∷ []) got (put ++ x) ≡ pieces_of ms got put ++ sent x ∷ []
sends [] got put x h = let e = none put (sym h) in rw e (ap (λ (l : List ℕ). sent l ∷ []) (take_all x))
sends (transfer.Received n ∷ ms) got put x h = ap (λ (l : List Piece). received (take n got) ∷ l) (sends ms (drop n got) put x h)
sends (transfer.Sent n ∷ ms) got put x h =
    let le : n ≤ length put = omega (arith, h) in
    let rest = sends ms got (drop n put) x (omega (arith, h, drop_length n put)) in
    rw (take_front n put x le, drop_front n put x le) (ap (λ (l : List Piece). sent (take n put) ∷ l) rest)

-- the counts with one more call
pub got_more : (ms : List Transfer) (n : ℕ) → received_count (ms ++ transfer.Received n ∷ []) ≡ received_count ms + n
got_more [] n = omega arith
got_more (transfer.Sent k ∷ ms) n = got_more ms n
got_more (transfer.Received k ∷ ms) n = omega (arith, got_more ms n)

pub put_more : (ms : List Transfer) (n : ℕ) → sent_count (ms ++ transfer.Sent n ∷ []) ≡ sent_count ms + n
put_more [] n = omega arith
put_more (transfer.Received k ∷ ms) n = put_more ms n
put_more (transfer.Sent k ∷ ms) n = omega (arith, put_more ms n)

pub got_same : (ms : List Transfer) (n : ℕ) → received_count (ms ++ transfer.Sent n ∷ []) ≡ received_count ms
got_same [] n = refl
got_same (transfer.Sent k ∷ ms) n = got_same ms n
got_same (transfer.Received k ∷ ms) n = ap (λ (m : ℕ). k + m) (got_same ms n)

pub put_same : (ms : List Transfer) (n : ℕ) → sent_count (ms ++ transfer.Received n ∷ []) ≡ sent_count ms
put_same [] n = refl
put_same (transfer.Received k ∷ ms) n = put_same ms n
put_same (transfer.Sent k ∷ ms) n = ap (λ (m : ℕ). k + m) (put_same ms n)

-- a piece that a poll got, as the bytes that lie in the buffer
pub got_line : (ms ms' : List Transfer) (bytes put copied tail : List ℕ) (at n : ℕ) → received_count ms ≡ at → at ≤ length bytes → ms' ≡ ms ++ transfer.Received n ∷ []
    → copied ≡ take n (take (length bytes - at) (drop at bytes)) → n ≤ length (take (length bytes - at) (drop at bytes))
    → pieces_of ms' (take (at + n) bytes) put ≡ pieces_of ms (take at bytes) put ++ received (take n (copied ++ tail)) ∷ []
got_line ms ms' bytes put copied tail at n count le is e short =
    let x = take n (copied ++ tail) in
    let rest : take (length bytes - at) (drop at bytes) ≡ drop at bytes = take_rest bytes at in
    let fits : n ≤ length (drop at bytes) = rw (← rest) short in
    let len : length x ≡ n = ap length (front bytes at n copied tail e short) ∙ omega (arith, length-take n (drop at bytes)) in
    subst (λ (l : List ℕ). pieces_of ms' l put ≡ pieces_of ms (take at bytes) put ++ received x ∷ []) (sym (given_and_front bytes at n copied tail e short))
    (subst (λ (m : List Transfer). pieces_of m (take at bytes ++ x) put ≡ pieces_of ms (take at bytes) put ++ received x ∷ []) (sym is)
    (subst (λ (k : ℕ). pieces_of (ms ++ transfer.Received k ∷ []) (take at bytes ++ x) put ≡ pieces_of ms (take at bytes) put ++ received x ∷ []) len
    (receives ms (take at bytes) x put (count ∙ sym (omega (arith, length-take at bytes))))))

-- and one that was placed
pub put_line : (ms ms' : List Transfer) (got put put' x : List ℕ) → sent_count ms ≡ length put → put' ≡ put ++ x → ms' ≡ ms ++ transfer.Sent (length x) ∷ [] → pieces_of ms' got put' ≡ pieces_of ms got put ++ sent x ∷ []
put_line ms ms' got put put' x count e is =
    subst (λ (l : List ℕ). pieces_of ms' got l ≡ pieces_of ms got put ++ sent x ∷ []) (sym e) (subst (λ (m : List Transfer). pieces_of m got (put ++ x) ≡ pieces_of ms got put ++ sent x ∷ []) (sym is) (sends ms got put x count))
