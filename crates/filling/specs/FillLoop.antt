-- The loop that fills, over any engine: a state, the word that it gives and the state after it. Proved once, for every kind and every
-- width.
use Rattle.std.specs.Prelude.{◌≡◌, List, length, get_or}
use Rattle.std.proofs.Math.Path.{refl, ap}
use Rattle.std.proofs.Common.{◌∙◌, arith}
use Prim.Native.Nat.{ℕ, zero, suc, ◌+◌, ◌-◌, ◌*◌, ◌/◌, ◌%◌, ◌≤◌, ◌<◌}
use Rattle.std.proofs.Math.Decide.{dec_lt}
use Rattle.std.proofs.Math.Nat.{suc-mul}
use Rattle.std.proofs.Math.Arith.{digits_div, digits_mod}
use Rattle.filling.specs.Fill.{byte_of, byte_in}
use Rattle.filling.specs.Poke.{poke}
use Rattle.filling.specs.PokeLaws.{length_poke, poke_before, poke_at}

-- the state k words on, and the words as a sequence
unfoldable pub after : {S : Type 0} → (S → S) → ℕ → S → S
after step zero s = s
after step (suc k) s = step (after step k s)

-- the words that follow from a state, as a sequence
abbrev pub words_from : {S : Type 0} → (S → ℕ) → (S → S) → S → ℕ → ℕ
words_from word step s k = word (after step k s)

-- after some whole words of W bytes: i bytes of n are written, and the engine, from state s, has come to `cur`
pub record Filling {S : Type 0} (word : S → ℕ) (step : S → S) (W : ℕ) (s : S) (n i : ℕ) (cur : S) (bytes : List ℕ) : Type 0 where
  pub words : ℕ
  pub place : i ≡ words * W
  pub within : i ≤ n
  pub size : length bytes ≡ n
  pub moved : cur ≡ after step words s
  pub written : (j : ℕ) → j < i → get_or bytes j 0 ≡ byte_in W (words_from word step s) j

-- all whole words that n bytes have room for
abbrev pub WholeWords : {S : Type 0} → (S → ℕ) → (S → S) → ℕ → S → ℕ → S → List ℕ → Type 0
WholeWords word step W s n cur bytes = Filling word step W s n (n - n % W) cur bytes

-- nothing is written yet
pub filling_start : {S : Type 0} (word : S → ℕ) (step : S → S) (W : ℕ) (s : S) (bytes : List ℕ)
    → Filling word step W s (length bytes) 0 s bytes
unfolding after
filling_start word step W s bytes =
    record {
      words = 0;
      place = omega arith;
      within = omega arith;
      size = refl;
      moved = refl;
      written = λ j h. absurd (omega arith);
    }

module _ {S : Type 0} {word : S → ℕ} {step : S → S} {W : ℕ} {s : S} {n i : ℕ} {cur : S} {bytes : List ℕ}
    (h : Filling word step W s n i cur bytes) where
  -- byte t of the next word is byte i + t
  byte_here : (w t : ℕ) → w ≡ word cur → t < W → byte_of w t ≡ byte_in W (words_from word step s) (i + t)
  byte_here w t e q =
      rw (h.place, digits_div h.words q, digits_mod h.words q, e, h.moved)

  -- k bytes of the next word are the next k bytes
  pub written_more : (k w : ℕ) → w ≡ word cur → k ≤ W → i + k ≤ n
      → (j : ℕ) → j < i + k → get_or (poke k i w bytes) j 0 ≡ byte_in W (words_from word step s) j
  written_more k w e q f j l = go (dec_lt j i)
    where
      go : Dec (j < i) → get_or (poke k i w bytes) j 0 ≡ byte_in W (words_from word step s) j
      go (yes a) = poke_before k i w bytes j a ∙ h.written j a
      go (no a) =
          let z : j ≡ i + (j - i) = omega arith in
          let fits = h.size in
          rw z (poke_at k i w bytes (j - i) (omega arith) (omega arith) ∙ byte_here w (j - i) e (omega arith))

  -- one word more
  pub filling_more : (w : ℕ) (next : S) → w ≡ word cur → next ≡ step cur → 0 < W → W ≤ n - i
      → Filling word step W s n (i + W) next (poke W i w bytes)
  unfolding after
  filling_more w next e f p q =
      let b = h.within in
      record {
        words = suc h.words;
        place = rw suc-mul (ap (λ (x : ℕ). x + W) h.place);
        within = omega arith;
        size = length_poke W i w bytes ∙ h.size;
        moved = f ∙ ap step h.moved;
        written = written_more W w e (omega arith) (omega arith);
      }

  -- no room for another
  pub filling_end : n - i < W → WholeWords word step W s n cur bytes
  filling_end q =
      let b = h.within in
      let z : n ≡ h.words * W + (n - i) = let p = h.place in omega arith in
      let m : n % W ≡ n - i = ap (λ (x : ℕ). x % W) z ∙ digits_mod h.words q in
      let e : n - n % W ≡ i = omega arith in
      rw e h

-- two words to a turn, and the one that may be left after the last turn
module _ {S : Type 0} {word : S → ℕ} {step : S → S} {W : ℕ} {s : S} {n i : ℕ} {cur : S} {bytes : List ℕ}
    (h : Filling word step W s n i cur bytes) where
  -- two words more
  pub filling_two : (w w' : ℕ) (next : S) → w ≡ word cur → w' ≡ word (step cur) → next ≡ step (step cur) → 0 < W → W + W ≤ n - i
      → Filling word step W s n (i + (W + W)) next (poke W (i + W) w' (poke W i w bytes))
  filling_two w w' next e e' f p q =
      let z : i + (W + W) ≡ i + W + W = omega arith in
      rw z (filling_more (filling_more h w (step cur) e refl p (omega arith)) w' next e' f p (omega arith))

  -- one word more, and no room for another
  pub filling_last : (w : ℕ) (next : S) → w ≡ word cur → next ≡ step cur → W ≤ n - i → n - i < W + W
      → WholeWords word step W s n next (poke W i w bytes)
  filling_last w next e f q l = filling_end (filling_more h w next e f (omega arith) q) (omega arith)

-- an engine that is part of another: the same bytes
module _ {S T : Type 0} {word : S → ℕ} {step : S → S} (word' : T → ℕ) (step' : T → T) (f : S → T)
    (same_word : (x : S) → word x ≡ word' (f x)) (same_step : (x : S) → f (step x) ≡ step' (f x)) where
  same_after : (k : ℕ) (s : S) → f (after step k s) ≡ after step' k (f s)
  unfolding after
  same_after zero s = refl
  same_after (suc k) s = same_step (after step k s) ∙ ap step' (same_after k s)

  same_byte : (W : ℕ) (s : S) (j : ℕ) → byte_in W (words_from word step s) j ≡ byte_in W (words_from word' step' (f s)) j
  same_byte W s j =
      let k = j / W in
      ap (λ (x : ℕ). byte_of x (j % W)) (same_word (after step k s) ∙ ap word' (same_after k s))

  -- so what the one has filled, the other has
  pub filling_part : {W : ℕ} {s : S} {n i : ℕ} {cur : S} {bytes : List ℕ}
      → Filling word step W s n i cur bytes → Filling word' step' W (f s) n i (f cur) bytes
  filling_part {W} {s} h =
      record {
        words = h.words;
        place = h.place;
        within = h.within;
        size = h.size;
        moved = ap f h.moved ∙ same_after h.words s;
        written = λ j l. h.written j l ∙ same_byte W s j;
      }
