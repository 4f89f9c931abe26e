-- The lines that tell the replies to a block's requests, and the verdicts on them.
use Rattle.std.specs.Prelude.{ℕ, ◌+◌, List, [], ◌∷◌, ◌++◌, Option, Some, None, codes}
use Rattle.std.specs.Fmt.{decimal}
use Rattle.meaning.specs.declared.reply.Cause.{Cause}
use Rattle.meaning.specs.declared.reply.Cause.TheVariants.{GraphExists, GraphMissing, TooManySolutions}
use Rattle.meaning.specs.declared.reply.Refusal.{Refusal}
use Rattle.meaning.specs.declared.reply.Refusal.TheVariants.{Syntax, Prefix, VariableInData, BlankInDelete, LabelReused, Limit}
use Rattle.meaning.specs.declared.reply.Reply.{Reply}
use Rattle.meaning.specs.declared.reply.Reply.TheVariants.{Done, Failed, Refused}

abbrev pub cause_word : Cause → List ℕ
cause_word GraphExists = codes "graph-exists"
cause_word GraphMissing = codes "graph-missing"
cause_word TooManySolutions = codes "too-many-solutions"

abbrev pub refusal_word : Refusal → List ℕ
refusal_word Syntax = codes "syntax"
refusal_word Prefix = codes "prefix"
refusal_word VariableInData = codes "variable-in-data"
refusal_word BlankInDelete = codes "blank-in-delete"
refusal_word LabelReused = codes "label-reused"
refusal_word Limit = codes "limit"

-- the line of the request at a place of the block, counted from 0, without its LF
abbrev pub reply_line : ℕ → Reply → List ℕ
reply_line i (Done added removed) = decimal i ++ codes " ok +" ++ decimal added ++ codes " -" ++ decimal removed
reply_line i (Failed operation cause) = decimal i ++ codes " failed " ++ decimal operation ++ codes " " ++ cause_word cause
reply_line i (Refused refusal) = decimal i ++ codes " refused " ++ refusal_word refusal

-- the line that tells whether the request at a place of the block is accepted, or why it is
-- refused, without its LF
abbrev pub verdict_line : ℕ → Option Refusal → List ℕ
verdict_line i None = decimal i ++ codes " accepted"
verdict_line i (Some refusal) = decimal i ++ codes " refused " ++ refusal_word refusal

-- the lines of a list from a place on, each ended by LF
abbrev pub lines_from : {A : Type 0} → (ℕ → A → List ℕ) → ℕ → List A → List ℕ
lines_from line i [] = []
lines_from line i (x ∷ xs) = (line i x ++ 10 ∷ []) ++ lines_from line (i + 1) xs

-- the lines of a block's replies, in order
abbrev pub reply_lines : List Reply → List ℕ
reply_lines rs = lines_from reply_line 0 rs

-- the lines of the verdicts on a block's requests, in order
abbrev pub verdict_lines : List (Option Refusal) → List ℕ
verdict_lines vs = lines_from verdict_line 0 vs
