-- The lines that are written are read.
use Rattle.std.specs.Prelude.{ℕ, zero, suc, Bool, ◌&&◌, nat_lt, codes}
use Rattle.std.proofs.Common.{◌≡◌, true, List, [], ◌∷◌, ◌++◌, Option, Some, None, refl, subst, IsUtf8, arith}
use Rattle.std.specs.Str.{IsAscii}
use Rattle.std.specs.List.{list_all, flat_map}
use Rattle.std.specs.Fmt.{decimal}
use Rattle.std.proofs.lemmas.Bool.{ltb-true, and_parts, and_from}
use Rattle.std.proofs.lemmas.Bool.Decides.{nat_tests}
use Rattle.std.proofs.lemmas.List.{append-nil}
use Rattle.std.proofs.lemmas.Str.{IsUtf8-append, IsUtf8-from_ascii, is_utf8-from_IsUtf8}
use Rattle.iris.specs.Iri.{is_digit}
use Rattle.iris.specs.Runs.{RunsAreLongest}
use Rattle.datasets.specs.declared.read.Read.{Read}
use Rattle.datasets.specs.declared.read.Read.TheVariants.{Scan, GraphIs, Graphs}
use Rattle.datasets.specs.declared.read.GraphPlace.{GraphPlace}
use Rattle.datasets.specs.declared.read.GraphPlace.TheVariants.{Any, Only}
use Rattle.terms.specs.declared.term.Term.{Term}
use Rattle.terms.specs.Canonical.{term_text}
use Rattle.nquads_lines.specs.Lines.{is_inner}
use Rattle.nquads_laws.specs.WellFormed.{IsTerm}
use Rattle.canonical_nquads.specs.Tag.{mark_of}
use Rattle.journal.specs.declared.lines.Event.{Event}
use Rattle.journal.specs.declared.lines.Event.TheVariants as event
use Rattle.journal.specs.declared.lines.Reply.{Reply}
use Rattle.journal.specs.declared.lines.Reply.TheVariants as reply
use Rattle.journal.specs.declared.lines.Line.{Line}
use Rattle.journal.specs.Text.{worker_word, request_word, place_word, graph_word, read_words, event_words, reply_words, spaced, line_body}
use Rattle.journal.specs.Lines.{IsPlace, IsGraphPlace, IsRead, IsEvent, IsReply, IsLine, IsRequest, IsCount}
use Rattle.journal.specs.Words.{is_word_byte, word, behind}
use Rattle.journal.specs.Reading.{event_at, reply_at, body_at, line_of}
use Rattle.journal.proofs.NumberLaws.{all_joined, decimal_digits, worker_digits, request_digits, decimal_is_read, worker_is_read, request_is_read}
use Rattle.journal.proofs.TermLaws.{word_front, word_last, joined, TermsAreRead, read_front}

-- ---- numbers are words

digit_in_word : (b : ℕ) → is_digit b ≡ true → is_word_byte b ≡ true
digit_in_word b e = grind (arith, nat_tests)

digits_word : (ds : List ℕ) → list_all is_digit ds ≡ true → list_all is_word_byte ds ≡ true
digits_word [] e = refl
digits_word (b ∷ ds) e = let h = and_parts (is_digit b) (list_all is_digit ds) e in and_from (is_word_byte b) (list_all is_word_byte ds) (digit_in_word b h.0) (digits_word ds h.1)

-- a request, or a number, and what follows
request_front : RunsAreLongest → (r : ℕ) (rest : List ℕ) → IsRequest r → (word (request_word r ++ 32 ∷ rest) ≡ request_word r) × (behind (request_word r ++ 32 ∷ rest) ≡ rest)
request_front runs r rest is = word_front runs (request_word r) rest (digits_word (request_word r) (request_digits r is))

count_front : RunsAreLongest → (n : ℕ) (rest : List ℕ) → IsCount n → (word (decimal n ++ 32 ∷ rest) ≡ decimal n) × (behind (decimal n ++ 32 ∷ rest) ≡ rest)
count_front runs n rest is = word_front runs (decimal n) rest (digits_word (decimal n) (decimal_digits n is))

-- ---- events

-- the words of a read begin with a space
led_read : (tag : ℕ) (q : Read Term) (ws : List (List ℕ)) → flat_map spaced (read_words tag q ++ ws) ≡ 32 ∷ joined (read_words tag q ++ ws)
led_read tag (Scan p) ws = refl
led_read tag (GraphIs t) ws = refl
led_read tag Graphs ws = refl

pub event_front : RunsAreLongest → TermsAreRead → (tag : ℕ) (e : Event) (w : List ℕ) (ws : List (List ℕ)) → IsEvent (mark_of tag) e
    → event_at (mark_of tag) (joined (event_words tag e ++ w ∷ ws)) ≡ Some (e, joined (w ∷ ws))
unfolding event_at
event_front runs terms tag (event.Take r) w ws is =
    let f = request_front runs r (joined (w ∷ ws)) is in
    rw (f.0, f.1, request_is_read r is) refl
event_front runs terms tag (event.Read r n q) w ws is =
    let later : List ℕ = joined (read_words tag q ++ w ∷ ws) in
    let f = request_front runs r (decimal n ++ 32 ∷ later) is.0 in
    let g = count_front runs n later is.1 in
    rw (led_read tag q (w ∷ ws), f.0, f.1, g.0, g.1, request_is_read r is.0, decimal_is_read n is.1, read_front runs terms tag q w ws is.2) refl
event_front runs terms tag (event.Publish r n) w ws is =
    let rest : List ℕ = joined (w ∷ ws) in
    let f = request_front runs r (decimal n ++ 32 ∷ rest) is.0 in
    let g = count_front runs n rest is.1 in
    rw (f.0, f.1, g.0, g.1, request_is_read r is.0, decimal_is_read n is.1) refl
event_front runs terms tag (event.Begin r n) w ws is =
    let rest : List ℕ = joined (w ∷ ws) in
    let f = request_front runs r (decimal n ++ 32 ∷ rest) is.0 in
    let g = count_front runs n rest is.1 in
    rw (f.0, f.1, g.0, g.1, request_is_read r is.0, decimal_is_read n is.1) refl
event_front runs terms tag (event.Check r n) w ws is =
    let rest : List ℕ = joined (w ∷ ws) in
    let f = request_front runs r (decimal n ++ 32 ∷ rest) is.0 in
    let g = count_front runs n rest is.1 in
    rw (f.0, f.1, g.0, g.1, request_is_read r is.0, decimal_is_read n is.1) refl
event_front runs terms tag (event.Commit r) w ws is =
    let f = request_front runs r (joined (w ∷ ws)) is in
    rw (f.0, f.1, request_is_read r is) refl
event_front runs terms tag (event.GiveUp r n) w ws is =
    let rest : List ℕ = joined (w ∷ ws) in
    let f = request_front runs r (decimal n ++ 32 ∷ rest) is.0 in
    let g = count_front runs n rest is.1 in
    rw (f.0, f.1, g.0, g.1, request_is_read r is.0, decimal_is_read n is.1) refl

-- ---- replies

reply_read : RunsAreLongest → (r : Reply) → IsReply r → reply_at (joined (reply_words r)) ≡ Some r
unfolding reply_at
reply_read runs (reply.Taken n) is = rw (word_last runs (decimal n) (digits_word (decimal n) (decimal_digits n is)), decimal_is_read n is) refl
reply_read runs (reply.Answered n) is = rw (word_last runs (decimal n) (digits_word (decimal n) (decimal_digits n is)), decimal_is_read n is) refl
reply_read runs (reply.Blocked r) is = rw (word_last runs (request_word r) (digits_word (request_word r) (request_digits r is)), request_is_read r is) refl
reply_read runs reply.Published is = refl
reply_read runs reply.Begun is = refl
reply_read runs reply.Passed is = refl
reply_read runs reply.Aborted is = refl
reply_read runs reply.Committed is = refl
reply_read runs reply.Given is = refl
reply_read runs reply.Stale is = refl
reply_read runs reply.NotYours is = refl
reply_read runs reply.NotYet is = refl

-- ---- whole lines

led_event : (tag : ℕ) (e : Event) (ws : List (List ℕ)) → flat_map spaced (event_words tag e ++ ws) ≡ 32 ∷ joined (event_words tag e ++ ws)
led_event tag (event.Take r) ws = refl
led_event tag (event.Read r n q) ws = refl
led_event tag (event.Publish r n) ws = refl
led_event tag (event.Begin r n) ws = refl
led_event tag (event.Check r n) ws = refl
led_event tag (event.Commit r) ws = refl
led_event tag (event.GiveUp r n) ws = refl

-- what was replied stands behind `>`
led_reply : (r : Reply) → behind (joined (codes ">" ∷ reply_words r)) ≡ joined (reply_words r)
led_reply (reply.Taken n) = refl
led_reply (reply.Answered n) = refl
led_reply (reply.Blocked r) = refl
led_reply reply.Published = refl
led_reply reply.Begun = refl
led_reply reply.Passed = refl
led_reply reply.Aborted = refl
led_reply reply.Committed = refl
led_reply reply.Given = refl
led_reply reply.Stale = refl
led_reply reply.NotYours = refl
led_reply reply.NotYet = refl

body_read : RunsAreLongest → TermsAreRead → (tag : ℕ) (l : Line) → IsLine (mark_of tag) l → body_at (mark_of tag) (line_body tag l) ≡ Some l
unfolding body_at
body_read runs terms tag l is =
    let later : List (List ℕ) = codes ">" ∷ reply_words l.reply in
    let rest : List ℕ = joined (event_words tag l.event ++ later) in
    let f = word_front runs (worker_word l.worker) rest (digits_word (worker_word l.worker) (worker_digits l.worker is.worker)) in
    let e = event_front runs terms tag l.event (codes ">") (reply_words l.reply) is.event in
    rw (led_event tag l.event later, f.0, f.1, worker_is_read l.worker is.worker, e, led_reply l.reply, reply_read runs l.reply is.reply) refl

-- ---- their bytes

-- a text, and no line ends in it
pub record IsPiece (bs : List ℕ) : Type 0 where
  pub utf8 : IsUtf8 bs
  pub inner : list_all is_inner bs ≡ true

abbrev pub TermsArePieces : Type 0
TermsArePieces = (tag : ℕ) (t : Term) → IsTerm t → IsPiece (term_text tag t)

abbrev is_plain : ℕ → Bool
is_plain b = nat_lt b 128 && is_inner b

piece_append : (xs ys : List ℕ) → IsPiece xs → IsPiece ys → IsPiece (xs ++ ys)
piece_append xs ys a b = record { utf8 = IsUtf8-append xs ys a.utf8 b.utf8; inner = all_joined is_inner xs ys a.inner b.inner }

plain_low : (bs : List ℕ) → list_all is_plain bs ≡ true → IsAscii bs
plain_low [] e i = omega arith
plain_low (b ∷ bs) e zero = ltb-true b 128 (and_parts (nat_lt b 128) (is_inner b) (and_parts (is_plain b) (list_all is_plain bs) e).0).0
plain_low (b ∷ bs) e (suc i) = plain_low bs (and_parts (is_plain b) (list_all is_plain bs) e).1 i

plain_inner : (bs : List ℕ) → list_all is_plain bs ≡ true → list_all is_inner bs ≡ true
plain_inner [] e = refl
plain_inner (b ∷ bs) e =
    let h = and_parts (is_plain b) (list_all is_plain bs) e in
    and_from (is_inner b) (list_all is_inner bs) (and_parts (nat_lt b 128) (is_inner b) h.0).1 (plain_inner bs h.1)

piece_plain : (bs : List ℕ) → list_all is_plain bs ≡ true → IsPiece bs
piece_plain bs e = record { utf8 = IsUtf8-from_ascii bs (plain_low bs e); inner = plain_inner bs e }

digit_plain : (b : ℕ) → is_digit b ≡ true → is_plain b ≡ true
digit_plain b e = grind (arith, nat_tests)

digits_plain : (ds : List ℕ) → list_all is_digit ds ≡ true → list_all is_plain ds ≡ true
digits_plain [] e = refl
digits_plain (b ∷ ds) e = let h = and_parts (is_digit b) (list_all is_digit ds) e in and_from (is_plain b) (list_all is_plain ds) (digit_plain b h.0) (digits_plain ds h.1)

piece_count : (n : ℕ) → IsCount n → IsPiece (decimal n)
piece_count n is = piece_plain (decimal n) (digits_plain (decimal n) (decimal_digits n is))

piece_request : (r : ℕ) → IsRequest r → IsPiece (request_word r)
piece_request r is = piece_plain (request_word r) (digits_plain (request_word r) (request_digits r is))

abbrev ArePieces : List (List ℕ) → Type 0
ArePieces [] = Unit {0}
ArePieces (w ∷ ws) = IsPiece w × ArePieces ws

pieces_spaced : (ws vs : List (List ℕ)) → ArePieces ws → IsPiece (flat_map spaced vs) → IsPiece (flat_map spaced (ws ++ vs))
pieces_spaced [] vs each rest = rest
pieces_spaced (w ∷ ws) vs each rest = piece_append (32 ∷ w) (flat_map spaced (ws ++ vs)) (piece_append (32 ∷ []) w (piece_plain (32 ∷ []) refl) each.0) (pieces_spaced ws vs each.1 rest)

piece_place : TermsArePieces → (tag : ℕ) (mark : List ℕ) (x : Option Term) → IsPlace mark x → IsPiece (place_word tag x)
piece_place pieces tag mark None is = piece_plain (codes "-") refl
piece_place pieces tag mark (Some t) is = pieces tag t is.0

piece_graph : TermsArePieces → (tag : ℕ) (mark : List ℕ) (g : GraphPlace Term) → IsGraphPlace mark g → IsPiece (graph_word tag g)
piece_graph pieces tag mark Any is = piece_plain (codes "-") refl
piece_graph pieces tag mark (Only None) is = piece_plain (codes "default") refl
piece_graph pieces tag mark (Only (Some t)) is = pieces tag t is.0

read_pieces : TermsArePieces → (tag : ℕ) (mark : List ℕ) (q : Read Term) → IsRead mark q → ArePieces (read_words tag q)
read_pieces pieces tag mark (Scan p) is = (
  piece_plain (codes "scan") refl,
  (
    piece_place pieces tag mark p.subject is.subject,
    (piece_place pieces tag mark p.predicate is.predicate, (piece_place pieces tag mark p.object is.object, (piece_graph pieces tag mark p.graph is.graph, tt))),
  ),
)
read_pieces pieces tag mark (GraphIs t) is = (piece_plain (codes "is") refl, (pieces tag t is.0, tt))
read_pieces pieces tag mark Graphs is = (piece_plain (codes "graphs") refl, tt)

event_pieces : TermsArePieces → (tag : ℕ) (mark : List ℕ) (e : Event) → IsEvent mark e → ArePieces (event_words tag e)
event_pieces pieces tag mark (event.Take r) is = (piece_plain (codes "take") refl, (piece_request r is, tt))
event_pieces pieces tag mark (event.Read r n q) is = (piece_plain (codes "read") refl, (piece_request r is.0, (piece_count n is.1, read_pieces pieces tag mark q is.2)))
event_pieces pieces tag mark (event.Publish r n) is = (piece_plain (codes "publish") refl, (piece_request r is.0, (piece_count n is.1, tt)))
event_pieces pieces tag mark (event.Begin r n) is = (piece_plain (codes "begin") refl, (piece_request r is.0, (piece_count n is.1, tt)))
event_pieces pieces tag mark (event.Check r n) is = (piece_plain (codes "check") refl, (piece_request r is.0, (piece_count n is.1, tt)))
event_pieces pieces tag mark (event.Commit r) is = (piece_plain (codes "commit") refl, (piece_request r is, tt))
event_pieces pieces tag mark (event.GiveUp r n) is = (piece_plain (codes "giveup") refl, (piece_request r is.0, (piece_count n is.1, tt)))

reply_pieces : (r : Reply) → IsReply r → ArePieces (reply_words r)
reply_pieces (reply.Taken n) is = (piece_plain (codes "taken") refl, (piece_count n is, tt))
reply_pieces (reply.Answered n) is = (piece_plain (codes "answer") refl, (piece_count n is, tt))
reply_pieces (reply.Blocked r) is = (piece_plain (codes "blocked") refl, (piece_request r is, tt))
reply_pieces reply.Published is = (piece_plain (codes "published") refl, tt)
reply_pieces reply.Begun is = (piece_plain (codes "begun") refl, tt)
reply_pieces reply.Passed is = (piece_plain (codes "passed") refl, tt)
reply_pieces reply.Aborted is = (piece_plain (codes "aborted") refl, tt)
reply_pieces reply.Committed is = (piece_plain (codes "committed") refl, tt)
reply_pieces reply.Given is = (piece_plain (codes "given") refl, tt)
reply_pieces reply.Stale is = (piece_plain (codes "stale") refl, tt)
reply_pieces reply.NotYours is = (piece_plain (codes "not-yours") refl, tt)
reply_pieces reply.NotYet is = (piece_plain (codes "not-yet") refl, tt)

pub body_piece : TermsArePieces → (tag : ℕ) (mark : List ℕ) (l : Line) → IsLine mark l → IsPiece (line_body tag l)
body_piece pieces tag mark l is =
    let replied : ArePieces (codes ">" ∷ reply_words l.reply) = (piece_plain (codes ">") refl, reply_pieces l.reply is.reply) in
    let last : IsPiece (flat_map spaced (codes ">" ∷ reply_words l.reply)) =
    subst (λ (ws : List (List ℕ)). IsPiece (flat_map spaced ws)) (append-nil (codes ">" ∷ reply_words l.reply)) (pieces_spaced (codes ">" ∷ reply_words l.reply) [] replied (piece_plain [] refl)) in
    piece_append (worker_word l.worker) (flat_map spaced (event_words tag l.event ++ codes ">" ∷ reply_words l.reply))
    (piece_plain (worker_word l.worker) (digits_plain (worker_word l.worker) (worker_digits l.worker is.worker)))
    (pieces_spaced (event_words tag l.event) (codes ">" ∷ reply_words l.reply) (event_pieces pieces tag mark l.event is.event) last)

pub line_is_read : RunsAreLongest → TermsAreRead → TermsArePieces → (tag : ℕ) (l : Line) → IsLine (mark_of tag) l → line_of (mark_of tag) (line_body tag l) ≡ Some l
unfolding line_of
line_is_read runs terms pieces tag l is =
    rw (is_utf8-from_IsUtf8 (line_body tag l) (body_piece pieces tag (mark_of tag) l is).utf8) (body_read runs terms tag l is)
