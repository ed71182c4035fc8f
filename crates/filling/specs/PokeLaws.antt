-- The laws of writing bytes into a list: what stands before them stays, then stand the bytes, and no length changes.
use borrow.Rule.Slice.PartMut.{put_mid, post_of, Post-is}
use Rattle.std.specs.Int.{w64, to_le_bytes}
use Rattle.std.specs.Prelude.{◌≡◌, refl, List, [], ◌∷◌, ◌++◌, take, drop, ℕ, zero, suc, ◌+◌, ◌-◌, ◌/◌, ◌%◌, ◌^◌, ◌≤◌, ◌<◌, length}
use Rattle.std.specs.Prelude.{get_or, set}
use Rattle.std.proofs.Common.{sym, ◌∙◌, ap, arith, add-zero, add-one, append_assoc, length-set, get_or-set_same, get_or-set_other}
use Rattle.std.proofs.Math.Nat.{div-div-eq-div-mul, pow-succ'}
use Rattle.std.proofs.Math.Seq.{take-suc-set}
use Rattle.std.proofs.lemmas.List.{take-append-drop, drop-set-lt}
use Rattle.filling.specs.Fill.{byte_of}
use Rattle.filling.specs.Poke.{poke, low_bytes}

-- no length changes
pub length_poke : (n i w : ℕ) (l : List ℕ) → length (poke n i w l) ≡ length l
unfolding poke
length_poke zero i w l = refl
length_poke (suc n) i w l = length_poke n (i + 1) (w / 256) (set l i (w % 256)) ∙ length-set l i (w % 256)

-- what stands before the bytes stays
pub poke_before : (n i w : ℕ) (l : List ℕ) (j : ℕ) → j < i → get_or (poke n i w l) j 0 ≡ get_or l j 0
unfolding poke
poke_before zero i w l j h = refl
poke_before (suc n) i w l j h =
    poke_before n (i + 1) (w / 256) (set l i (w % 256)) j (omega arith) ∙ get_or-set_other l i j (w % 256) 0 (λ e. omega arith)

-- and then stand the bytes
pub poke_at : (n i w : ℕ) (l : List ℕ) (t : ℕ) → t < n → i + n ≤ length l → get_or (poke n i w l) (i + t) 0 ≡ byte_of w t
unfolding poke
poke_at zero i w l t h f = absurd (omega arith)
poke_at (suc n) i w l zero h f =
    let z : i + zero ≡ i = omega arith in
    let one : w / 1 ≡ w = omega arith in
    rw z (poke_before n (i + 1) (w / 256) (set l i (w % 256)) i (omega arith) ∙ get_or-set_same l i (w % 256) 0 (omega arith) ∙ rw one)
poke_at (suc n) i w l (suc t) h f =
    let z : i + suc t ≡ i + 1 + t = omega arith in
    let e : w / 256 / 256 ^ t ≡ w / 256 ^ suc t = div-div-eq-div-mul w 256 (256 ^ t) ∙ ap (λ (x : ℕ). w / x) (sym (pow-succ' 256 t)) in
    rw z (poke_at n (i + 1) (w / 256) (set l i (w % 256)) t (omega arith) (rw length-set (omega arith)) ∙ rw e)

-- four bytes and then four more are eight
pub poke_eight : (i w : ℕ) (l : List ℕ) → poke 4 (i + 4) (w / 2 ^ 32) (poke 4 i w l) ≡ poke 8 i w l
unfolding poke
poke_eight i w l =
    let e : w / 256 / 256 / 256 / 256 ≡ w / 2 ^ 32 = omega arith in
    let p : i + 1 + 1 + 1 + 1 ≡ i + 4 = omega arith in
    rw (e, p)

-- a list with the low n bytes of w put over a part of it is the list with them written in
written_over : (n i w : ℕ) (l : List ℕ) → i + n ≤ length l → take i l ++ (low_bytes n w ++ drop (i + n) l) ≡ poke n i w l
unfolding poke low_bytes
written_over zero i w l h = rw add-zero (take-append-drop i l)
written_over (suc n) i w l h = rw (← written_over n (i + 1) (w / 256) l' room, front, back, append_assoc)
  where
    l' : List ℕ
    l' = set l i (w % 256)

    room : i + 1 + n ≤ length l'
    room = rw length-set (omega arith)

    front : take (i + 1) l' ≡ take i l ++ (w % 256 ∷ [])
    front = rw add-one (take-suc-set l i (w % 256) (omega arith))

    back : drop (i + 1 + n) l' ≡ drop (i + suc n) l
    back = let e : i + 1 + n ≡ i + suc n = omega arith in rw e (drop-set-lt (i + suc n) l i (w % 256) (omega arith))

-- as the code meets it: the part from i to i + n, which holds these bytes now
pub poke_part : (n i w : ℕ) (l bytes : List ℕ) → i + n ≤ length l → bytes ≡ low_bytes n w → put_mid i (i + n - i) l bytes ≡ poke n i w l
poke_part n i w l bytes h e =
    let rest : post_of i (i + n - i) l ≡ drop (i + n) l = Post-is i (i + n) l (omega arith) in
    rw (rest, e) (written_over n i w l h)

-- the bytes of a word are all its low bytes, and fewer of them are its lowest
pub eight_low : (w : ℕ) → to_le_bytes w64 w ≡ low_bytes 8 w
unfolding low_bytes
eight_low w = simp div-div-eq-div-mul

pub few_low : (n m w : ℕ) → n ≤ m → take n (low_bytes m w) ≡ low_bytes n w
unfolding low_bytes
few_low zero m w h = refl
few_low (suc n) zero w h = absurd (omega arith)
few_low (suc n) (suc m) w h = ap (λ (l : List ℕ). w % 256 ∷ l) (few_low n m (w / 256) (omega arith))
