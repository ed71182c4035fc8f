-- The laws of filling: a filled buffer keeps its length, its old content matters to nothing, and one content and one next generator are
-- possible.
use Rattle.std.specs.Prelude.{◌≡◌, refl, List, ℕ, zero, suc, ◌+◌, ◌-◌, ◌*◌, ◌/◌, ◌%◌, ◌≤◌, ◌<◌, length, get_or}
use Rattle.std.proofs.Common.{sym, ◌∙◌, ap, suc-mul, mod-lt, arith, ext_get_or}
use Rattle.std.proofs.Math.Nat.{mod-le}
use Rattle.std.proofs.Math.Arith.{digits_div}
use Rattle.mersenne_twister.specs.SequenceLaws.{length_terms, terms_at}
use Rattle.random.specs.declared.backend.Random.{Random}
use Rattle.random.specs.Generator.{width_of, own_word, step, later}
use Rattle.random.specs.GeneratorLaws.{width_positive, later_none}
use Rattle.filling.specs.Fill.{byte_of, byte_in, bytes_from, words_for, own_words, filled_bytes, FilledFrom}
use Rattle.filling.specs.FillKinds.{WholeOwn}
use Rattle.filling.specs.FillLoop.{after, words_from, written_more}
use Rattle.filling.specs.Poke.{poke}
use Rattle.filling.specs.PokeLaws.{length_poke}

-- ---- bytes

-- n bytes are n
pub length_bytes : (W : ℕ) (s : ℕ → ℕ) (n : ℕ) → length (bytes_from W s n) ≡ n
unfolding bytes_from
length_bytes W s n = length_terms _ 0 n

-- byte k of a buffer is byte k of the words
pub byte_at : (W : ℕ) (s : ℕ → ℕ) (n k : ℕ) → k < n → get_or (bytes_from W s n) k 0 ≡ byte_in W s k
unfolding bytes_from
byte_at W s n k h = let z : 0 + k ≡ k = omega arith in terms_at (byte_in W s) 0 n k h ∙ ap (byte_in W s) z

-- a list whose every byte is right is the whole of it
pub all_bytes : (W : ℕ) (s : ℕ → ℕ) (n : ℕ) (l : List ℕ)
    → length l ≡ n → ((k : ℕ) → k < n → get_or l k 0 ≡ byte_in W s k) → l ≡ bytes_from W s n
all_bytes W s n l e f =
    ext_get_or 0 l (bytes_from W s n) (e ∙ sym (length_bytes W s n)) (λ k b. f k (omega arith) ∙ sym (byte_at W s n k (omega arith)))

-- a filled buffer keeps its length
pub length_filled : (g : Random) (n : ℕ) → length (filled_bytes g n) ≡ n
unfolding filled_bytes
length_filled g n = length_bytes _ _ n

-- ---- the words that they take

-- whole words take themselves
pub words_whole : (m W : ℕ) → 0 < W → words_for W (m * W) ≡ m
words_whole m W p = digits_div m (omega arith)

-- "Length 0 uses none"
pub words_none : (W : ℕ) → 0 < W → words_for W 0 ≡ 0
words_none W p = let z : 0 * W ≡ 0 = omega arith in ap (words_for W) (sym z) ∙ words_whole 0 W p

-- "A short tail uses a whole word"
pub words_tail : (m W t : ℕ) → 0 < t → t < W → words_for W (m * W + t) ≡ suc m
words_tail m W t p q =
    let e : m * W + t + (W - 1) ≡ suc m * W + (t - 1) = rw suc-mul (omega arith) in
    rw e (digits_div (suc m) (omega arith))

-- whole words and what is left over are all
pub tail_fits : (n W : ℕ) → n - n % W + n % W ≤ n
tail_fits n W = let h : n % W ≤ n = mod-le n W in omega arith

-- ---- a generator as an engine

advance_after : (k : ℕ) (g : Random) → after step k g ≡ later k g
unfolding after later
advance_after zero g = refl
advance_after (suc k) g = ap step (advance_after k g)

-- byte k of its own words, as the loop has it
own_byte : (W : ℕ) (g : Random) (k : ℕ) → byte_in W (words_from own_word step g) k ≡ byte_in W (own_words g) k
unfolding own_words
own_byte W g k = ap (λ (h : Random). byte_of (own_word h) (k % W)) (advance_after (k / W) g)

-- n bytes that are whole words
pub filled_whole : {g : Random} {n : ℕ} {cur : Random} {bytes : List ℕ}
    → WholeOwn g n cur bytes → n % width_of g.backend ≡ 0 → FilledFrom g n bytes cur
unfolding filled_bytes
filled_whole {g} {n} {cur} {bytes} h z =
    let W = width_of g.backend in
    let e : n ≡ h.words * W = let p = h.place in omega arith in
    let c : words_for W n ≡ h.words = ap (words_for W) e ∙ words_whole h.words W (width_positive g.backend) in
    record {
      content = all_bytes W (own_words g) n bytes h.size (λ k l. h.written k (omega arith) ∙ own_byte W g k);
      after = h.moved ∙ advance_after h.words g ∙ rw c;
    }

-- and with a short tail, whose bytes are the low ones of the next word
pub filled_tail : {g : Random} {n : ℕ} {cur : Random} {bytes : List ℕ} (h : WholeOwn g n cur bytes) (w : ℕ) (next : Random)
    → (n % width_of g.backend ≡ 0 → ⊥) → w ≡ own_word cur → next ≡ step cur
    → FilledFrom g n (poke (n % width_of g.backend) (n - n % width_of g.backend) w bytes) next
unfolding filled_bytes after
filled_tail {g} {n} {cur} {bytes} h w next z e f =
    let W = width_of g.backend in
    let t = n % W in
    let small : t < W = mod-lt n (width_positive g.backend) in
    let within : t ≤ n = mod-le n W in
    let split : n ≡ h.words * W + t = let p = h.place in omega arith in
    let some : 0 < t = omega arith in
    let c : words_for W n ≡ suc h.words = ap (words_for W) split ∙ words_tail h.words W t some small in
    let right = written_more h t w e (omega arith) (omega arith) in
    record {
      content =
          all_bytes W (own_words g) n (poke t (n - t) w bytes) (length_poke t (n - t) w bytes ∙ h.size)
          (λ k l. right k (omega arith) ∙ own_byte W g k);
      after = f ∙ ap step h.moved ∙ advance_after (suc h.words) g ∙ rw c;
    }

-- ---- one content, one next generator

pub one_filling : {g : Random} {n : ℕ} {bytes other : List ℕ} {next next' : Random} → FilledFrom g n bytes next → FilledFrom g n other next'
    → (bytes ≡ other) × (next ≡ next')
one_filling a b = (a.content ∙ sym b.content, a.after ∙ sym b.after)

-- two buffers of one length come out alike, whatever they held
pub old_content_is_lost : {g : Random} (old old' : List ℕ) {bytes other : List ℕ} {next next' : Random} → length old ≡ length old'
    → FilledFrom g (length old) bytes next → FilledFrom g (length old') other next' → bytes ≡ other
old_content_is_lost {g} old old' e a b = a.content ∙ ap (filled_bytes g) e ∙ sym b.content

-- a buffer of length 0 leaves the generator alone
pub fill_none : {g next : Random} {bytes : List ℕ} → FilledFrom g 0 bytes next → next ≡ g
fill_none {g} h = h.after ∙ ap (λ (k : ℕ). later k g) (words_none _ (width_positive g.backend)) ∙ later_none g
