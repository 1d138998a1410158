-- The words of a line from the front.
use Rattle.std.proofs.Common.{◌≡◌, ◌⊎◌, inl, inr, ℕ, ◌+◌, ◌<◌, true, false, not, List, [], ◌∷◌, ◌++◌, length, All, refl, sym, ap, ◌∙◌, arith}
use Rattle.std.proofs.lemmas.List.Elements.{All-head, All-tail}
use Rattle.pg_text.specs.Text.{words, is_blank, begins_word, onto_first}
use Rattle.pg_text.specs.Cuts.{CutsBlanks, CutsRun}

words-blank : (b : ℕ) (line : List ℕ) → is_blank b ≡ true → words (b ∷ line) ≡ words line
unfolding words
words-blank b line blank = rw blank refl

words-go : (b : ℕ) (line : List ℕ) → is_blank b ≡ false → begins_word line ≡ true → words (b ∷ line) ≡ onto_first b (words line)
unfolding words
words-go b line solid go = rw (solid, go) refl

words-stop : (b : ℕ) (line : List ℕ) → is_blank b ≡ false → begins_word line ≡ false → words (b ∷ line) ≡ (b ∷ []) ∷ words line
unfolding words
words-stop b line solid stop = rw (solid, stop) refl

-- Blanks before the first word hold no word.
words-blanks : (blanks rest : List ℕ) → All (λ b. is_blank b ≡ true) blanks → words (blanks ++ rest) ≡ words rest
words-blanks [] rest blank = refl
words-blanks (b ∷ blanks) rest blank =
    words-blank b (blanks ++ rest) (All-head (λ x. is_blank x ≡ true) b blanks blank) ∙ words-blanks blanks rest (All-tail (λ x. is_blank x ≡ true) b blanks blank)

-- The first word, and the words of the rest.
words-run : (b : ℕ) (run rest : List ℕ) → All (λ x. is_blank x ≡ false) (b ∷ run) → begins_word rest ≡ false → words ((b ∷ run) ++ rest) ≡ (b ∷ run) ∷ words rest
words-run b [] rest solid stop = words-stop b rest (All-head (λ x. is_blank x ≡ false) b [] solid) stop
words-run b (c ∷ run) rest solid stop =
    let later = All-tail (λ x. is_blank x ≡ false) b (c ∷ run) solid in
    let go : begins_word ((c ∷ run) ++ rest) ≡ true = ap not (All-head (λ x. is_blank x ≡ false) c run later) in
    words-go b ((c ∷ run) ++ rest) (All-head (λ x. is_blank x ≡ false) b (c ∷ run) solid) go ∙ ap (onto_first b) (words-run c run rest later stop)

-- A run that begins after the blanks is the first word.
pub words-first : (line blanks more run rest : List ℕ) → CutsBlanks line blanks more → CutsRun more run rest → 0 < length run → words line ≡ run ∷ words rest
words-first line blanks more [] rest skip cut some = absurd (omega arith)
words-first line blanks more (b ∷ run) rest skip cut some =
    ap words skip.whole ∙ words-blanks blanks more skip.blank ∙ ap words cut.whole ∙ words-run b run rest cut.solid cut.stop

none-left : (more : List ℕ) → (more ≡ []) ⊎ (begins_word more ≡ true) → begins_word more ≡ false → words more ≡ []
none-left more (inl nil) stop = ap words nil ∙ (unfold words in refl)
none-left more (inr go) stop = cc

-- Where that run is empty no word is left.
pub words-none : (line blanks more run rest : List ℕ) → CutsBlanks line blanks more → CutsRun more run rest → length run ≡ 0 → (words line ≡ []) × (words rest ≡ [])
words-none line blanks more (b ∷ run) rest skip cut none = absurd (omega arith)
words-none line blanks more [] rest skip cut none =
    let nil = none-left more skip.stop (ap begins_word cut.whole ∙ cut.stop) in
    (ap words skip.whole ∙ words-blanks blanks more skip.blank ∙ nil, ap words (sym cut.whole) ∙ nil)
