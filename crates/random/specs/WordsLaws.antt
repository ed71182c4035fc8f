-- The laws of words by value: the first word, the signed word, and words XORed one after the other.
use Rattle.std.specs.Prelude.{◌≡◌, refl, ℕ, ◌+◌}
use Rattle.std.proofs.Common.{sym, ◌∙◌, ap, add-one}
use Rattle.std.specs.Int.Bits.{bit_xor}
use Rattle.random.specs.Generator.{step, word_of, later, words_of, rand_of, u64_of, i64_of, xor_of}
use Rattle.random.specs.GeneratorLaws.{later_none, later_one, word_at}
use Rattle.signed.specs.Signed.{signed_of}
use Rattle.random.specs.declared.backend.Random.{Random}
use Rattle.source.specs.declared.Drawn.{Drawn}

-- the next word is the word at place 0 of the sequence
pub rand_first : (g : Random) → (rand_of g).word ≡ words_of g 0
unfolding rand_of
rand_first g = ap word_of (sym (later_none _)) ∙ word_at 0 _

pub i64_is : (g : Random) (w : Drawn ℕ Random) → w ≡ u64_of g → record { word = signed_of 64 w.word; next = w.next } ≡ i64_of g
unfolding u64_of i64_of
i64_is g w e = rw e

-- ---- words XORed, one after the other: what a loop has after n of them

-- x is the first n words XORed, and cur the generator after them.
pub record Xored (g : Random) (n x : ℕ) (cur : Random) : Type 0 where
  pub value : x ≡ xor_of (words_of g) n
  pub moved : cur ≡ later n g

pub xored_none : (g : Random) → Xored g 0 0 g
unfolding xor_of
xored_none g = record { value = refl; moved = sym (later_none g) }

pub xored_more : (g : Random) (n x : ℕ) (cur : Random) (d : Drawn ℕ Random) → Xored g n x cur → d ≡ rand_of cur
    → Xored g (n + 1) (bit_xor x d.word) d.next
unfolding xor_of rand_of
xored_more g n x cur d h e =
    let w : d.word ≡ words_of g n = ap (λ (a : Drawn ℕ Random). a.word) e ∙ ap word_of h.moved ∙ word_at n g in
    record {
      value = rw (add-one, h.value, w);
      moved = ap (λ (a : Drawn ℕ Random). a.next) e ∙ ap step h.moved ∙ sym (later_one n g);
    }
