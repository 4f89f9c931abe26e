-- The first line is the run of bytes before a line end.
use Rattle.std.proofs.Common.{◌≡◌, ℕ, Bool, true, false, cond, not, ◌||◌, eqb, List, [], ◌∷◌, ◌++◌, refl, ap, ◌∙◌}
use Rattle.std.proofs.lemmas.Bool.{eqb-true}
use Rattle.std.specs.List.{onto_first, list_all}
use Rattle.iris.specs.Runs.{run_of, rest_of, RunsAreLongest}
use Rattle.nquads_lines.specs.Lines.{lines, lines_after, is_inner, lines_at_end}

-- a byte, in the shape of the definition
first_line_at : (b : ℕ) (bs : List ℕ) → lines_after false bs ≡ run_of is_inner bs ∷ lines_at_end (rest_of is_inner bs)
    → lines_after false (b ∷ bs) ≡ run_of is_inner (b ∷ bs) ∷ lines_at_end (rest_of is_inner (b ∷ bs))
first_line_at b bs below =
    elim (eqb b 10) as (λ (n : Bool). eqb b 10 ≡ n → cond n ([] ∷ lines_after false bs) (cond (eqb b 13) ([] ∷ lines_after true bs) (onto_first b (lines_after false bs)))
    ≡ cond (not (n || eqb b 13)) (b ∷ run_of is_inner bs) [] ∷ lines_at_end (cond (not (n || eqb b 13)) (rest_of is_inner bs) (b ∷ bs))) [
      | true ↦ λ e. rw (eqb-true b 10 e) refl
      | false ↦ λ e. elim (eqb b 13) as (λ (m : Bool). eqb b 13 ≡ m → cond m ([] ∷ lines_after true bs) (onto_first b (lines_after false bs))
          ≡ cond (not m) (b ∷ run_of is_inner bs) [] ∷ lines_at_end (cond (not m) (rest_of is_inner bs) (b ∷ bs))) [
            | true ↦ λ f. rw f refl
            | false ↦ λ f. ap (onto_first b) below
          ] refl
    ] refl

pub lines_first : (text : List ℕ) → lines text ≡ run_of is_inner text ∷ lines_at_end (rest_of is_inner text)
lines_first [] = refl
lines_first (b ∷ bs) = first_line_at b bs (lines_first bs)

-- a line that is ended by LF is the first
pub first_is_ended : RunsAreLongest → (line rest : List ℕ) → list_all is_inner line ≡ true → lines (line ++ 10 ∷ rest) ≡ line ∷ lines rest
first_is_ended runs line rest inner =
    let cut = (runs is_inner (line ++ 10 ∷ rest) line (10 ∷ rest)).1 (record { cut = refl; all = inner; stops = refl }) in
    lines_first (line ++ 10 ∷ rest) ∙ (λ i. cut.0 i ∷ lines_at_end (cut.1 i))
