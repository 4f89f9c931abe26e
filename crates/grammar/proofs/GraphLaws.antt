-- Operations on graphs: what is read is in the grammar, and what is in it is read.
use Rattle.std.proofs.Common.{◌≡◌, ℕ, ◌<◌, Bool, true, false, List, ◌∷◌, length, Option, Some, None, refl, ap, ◌∙◌, arith}
use Rattle.std.specs.Prelude.{codes}
use Rattle.std.specs.Option.{option_map_or}
use Rattle.iris.specs.Bracketed.{◌>>=◌}
use Rattle.iris.proofs.Options.{bind_some}
use Rattle.lexer.specs.declared.token.Token.{Token}
use Rattle.syntax_trees.specs.declared.tree.Name.{Name}
use Rattle.algebra.specs.declared.update.Target.{Target}
use Rattle.algebra.specs.declared.update.Target.TheVariants as target
use Rattle.syntax_trees.specs.declared.tree.Place.{Place}
use Rattle.syntax_trees.specs.declared.tree.Place.TheVariants as place
use Rattle.algebra.specs.declared.update.Transfer.{Transfer}
use Rattle.syntax_trees.specs.declared.tree.Operation.{Operation}
use Rattle.syntax_trees.specs.declared.tree.Operation.TheVariants as operation
use Rattle.productions.specs.Steps.{Found, Takes, Again}
use Rattle.productions.specs.Names.{ReadsName}
use Rattle.productions.specs.Keywords.{is_keyword, keyword_at, ReadsKeyword}
use Rattle.productions.specs.Reading.{name_at}
use Rattle.productions.proofs.KeywordLaws.{reads_keyword, keyword_again, keyword_takes, reads_no_other}
use Rattle.productions.proofs.NameLaws.{name_found, name_takes, name_again}
use Rattle.grammar.specs.Reads.{ReadsSilent, ReadsGraph, ReadsTarget, ReadsPlace, ReadsTransfer, ReadsOperation}
use Rattle.grammar.specs.Reads as reads
use Rattle.grammar.specs.Reading.{silent_at, graph_at, graph_target_at, target_at, name_place_at, place_at, create_at, drop_at, clear_at, transfer_at}
use Rattle.grammar.proofs.Words.{moved, by_word, behind_word, name_no_word, silent_found, silent_keeps, silent_again}

-- ---- what is read is in the grammar

graph_found : Found graph_at ReadsGraph
unfolding graph_at
graph_found ts x e = behind_word ReadsGraph (codes "GRAPH") ts name_at x e (λ r word e. reads.graph word (name_found r x e))

graph_target_found : Found graph_target_at ReadsTarget
unfolding graph_target_at
graph_target_found ts x e =
    let n = bind_some (graph_at ts) (λ n. Some (target.Graph n.0, n.1)) x e in
    moved ReadsTarget ts (target.Graph n.0.0, n.0.1) x n.2 (reads.in_graph (graph_found ts n.0 n.1))

target_found : Found target_at ReadsTarget
unfolding target_at
target_found ts x e =
    by_word ReadsTarget (codes "DEFAULT") ts (λ r. Some (target.Default, r)) _ x e (λ r word e. moved ReadsTarget ts (target.Default, r) x e (reads.default word)) (λ e.
    by_word ReadsTarget (codes "NAMED") ts (λ r. Some (target.Named, r)) _ x e (λ r word e. moved ReadsTarget ts (target.Named, r) x e (reads.named word)) (λ e.
    by_word ReadsTarget (codes "ALL") ts (λ r. Some (target.All, r)) _ x e (λ r word e. moved ReadsTarget ts (target.All, r) x e (reads.all word)) (λ e.
    graph_target_found ts x e)))

placed : (us ts : List Token) (x : Place × List Token) → ((n : Name) (rest : List Token) → ReadsName us n rest → ReadsPlace ts (place.Graph n) rest) → name_place_at us ≡ Some x → ReadsPlace ts x.0 x.1
unfolding name_place_at
placed us ts x there e =
    let n = bind_some (name_at us) (λ n. Some (place.Graph n.0, n.1)) x e in
    moved ReadsPlace ts (place.Graph n.0.0, n.0.1) x n.2 (there n.0.0 n.0.1 (name_found us n.0 n.1))

place_found : Found place_at ReadsPlace
unfolding place_at
place_found ts x e =
    by_word ReadsPlace (codes "DEFAULT") ts (λ r. Some (place.Default, r)) _ x e (λ r word e. moved ReadsPlace ts (place.Default, r) x e (reads.default word)) (λ e.
    by_word ReadsPlace (codes "GRAPH") ts name_place_at _ x e (λ r word e. placed r ts x (λ n rest is. reads.in_graph (reads.graph word is)) e) (λ e.
    placed ts ts x (λ n rest is. reads.name is) e))

pub create_found : (ts r : List Token) (x : Operation × List Token) → ReadsKeyword (codes "CREATE") ts r → create_at r ≡ Some x → ReadsOperation ts x.0 x.1
unfolding create_at
create_found ts r x word e =
    let n = bind_some (graph_at (silent_at r).1) (λ n. Some (operation.Create (silent_at r).0 n.0, n.1)) x e in
    moved ReadsOperation ts (operation.Create (silent_at r).0 n.0.0, n.0.1) x n.2 (reads.create word (silent_found r) (graph_found (silent_at r).1 n.0 n.1))

pub drop_found : (ts r : List Token) (x : Operation × List Token) → ReadsKeyword (codes "DROP") ts r → drop_at r ≡ Some x → ReadsOperation ts x.0 x.1
unfolding drop_at
drop_found ts r x word e =
    let t = bind_some (target_at (silent_at r).1) (λ t. Some (operation.Drop (silent_at r).0 t.0, t.1)) x e in
    moved ReadsOperation ts (operation.Drop (silent_at r).0 t.0.0, t.0.1) x t.2 (reads.drop word (silent_found r) (target_found (silent_at r).1 t.0 t.1))

pub clear_found : (ts r : List Token) (x : Operation × List Token) → ReadsKeyword (codes "CLEAR") ts r → clear_at r ≡ Some x → ReadsOperation ts x.0 x.1
unfolding clear_at
clear_found ts r x word e =
    let t = bind_some (target_at (silent_at r).1) (λ t. Some (operation.Clear (silent_at r).0 t.0, t.1)) x e in
    moved ReadsOperation ts (operation.Clear (silent_at r).0 t.0.0, t.0.1) x t.2 (reads.clear word (silent_found r) (target_found (silent_at r).1 t.0 t.1))

pub transfer_found : (how : Transfer) (ts r : List Token) (x : Operation × List Token) → ReadsTransfer ts how r → transfer_at how r ≡ Some x → ReadsOperation ts x.0 x.1
unfolding transfer_at
transfer_found how ts r x word e =
    let f = bind_some (place_at (silent_at r).1) (λ f. keyword_at (codes "TO") f.1 >>= λ u. place_at u >>= λ t. Some (operation.Transfer how (silent_at r).0 f.0 t.0, t.1)) x e in
    let u = bind_some (keyword_at (codes "TO") f.0.1) (λ u. place_at u >>= λ t. Some (operation.Transfer how (silent_at r).0 f.0.0 t.0, t.1)) x f.2 in
    let t = bind_some (place_at u.0) (λ t. Some (operation.Transfer how (silent_at r).0 f.0.0 t.0, t.1)) x u.2 in
    moved ReadsOperation ts (operation.Transfer how (silent_at r).0 f.0.0 t.0.0, t.0.1) x t.2
    (reads.transferred word (silent_found r) (place_found (silent_at r).1 f.0 f.1) (reads_keyword (codes "TO") f.0.1 u.0 u.1) (place_found u.0 t.0 t.1))

-- ---- what is in the grammar is read

graph_again : {ts rest : List Token} {n : Name} → ReadsGraph ts n rest → graph_at ts ≡ Some (n, rest)
unfolding graph_at
graph_again (reads.graph {ts} {r} {rest} {n} word is) = rw (keyword_again word, name_again r n rest is) refl

-- a graph begins with no other word than its own
graph_no_word : {ts rest : List Token} {n : Name} (j : List ℕ) → ReadsGraph ts n rest → is_keyword (codes "GRAPH") j ≡ false → keyword_at j ts ≡ None
graph_no_word j (reads.graph word is) apart = reads_no_other j word apart

target_again : {ts rest : List Token} {t : Target Name} → ReadsTarget ts t rest → target_at ts ≡ Some (t, rest)
unfolding target_at graph_target_at
target_again (reads.in_graph g) = rw (graph_no_word (codes "DEFAULT") g refl, graph_no_word (codes "NAMED") g refl, graph_no_word (codes "ALL") g refl, graph_again g) refl
target_again (reads.default word) = rw (keyword_again word) refl
target_again (reads.named word) = rw (reads_no_other (codes "DEFAULT") word refl, keyword_again word) refl
target_again (reads.all word) = rw (reads_no_other (codes "DEFAULT") word refl, reads_no_other (codes "NAMED") word refl, keyword_again word) refl

target_not_silent : {ts rest : List Token} {t : Target Name} → ReadsTarget ts t rest → keyword_at (codes "SILENT") ts ≡ None
target_not_silent (reads.in_graph g) = graph_no_word (codes "SILENT") g refl
target_not_silent (reads.default word) = reads_no_other (codes "SILENT") word refl
target_not_silent (reads.named word) = reads_no_other (codes "SILENT") word refl
target_not_silent (reads.all word) = reads_no_other (codes "SILENT") word refl

place_again : {ts rest : List Token} {p : Place} → ReadsPlace ts p rest → place_at ts ≡ Some (p, rest)
unfolding place_at name_place_at
place_again (reads.default word) = rw (keyword_again word) refl
place_again (reads.in_graph (reads.graph {ts} {r} {rest} {n} word is)) = rw (reads_no_other (codes "DEFAULT") word refl, keyword_again word, name_again r n rest is) refl
place_again (reads.name {ts} {rest} {n} is) = rw (name_no_word (codes "DEFAULT") is, name_no_word (codes "GRAPH") is, name_again ts n rest is) refl

place_not_silent : {ts rest : List Token} {p : Place} → ReadsPlace ts p rest → keyword_at (codes "SILENT") ts ≡ None
place_not_silent (reads.default word) = reads_no_other (codes "SILENT") word refl
place_not_silent (reads.in_graph g) = graph_no_word (codes "SILENT") g refl
place_not_silent (reads.name is) = name_no_word (codes "SILENT") is

abbrev created : Bool → Option (Name × List Token) → Option (Operation × List Token)
created s o = o >>= λ n. Some (operation.Create s n.0, n.1)

pub create_again : {ts r rest : List Token} {s : Bool} {n : Name} → ReadsSilent ts s r → ReadsGraph r n rest → create_at ts ≡ Some (operation.Create s n, rest)
unfolding create_at
create_again {s = s} said g = ap (λ (p : Bool × List Token). created p.0 (graph_at p.1)) (silent_again said (graph_no_word (codes "SILENT") g refl)) ∙ ap (created s) (graph_again g)

abbrev dropped : Bool → Option (Target Name × List Token) → Option (Operation × List Token)
dropped s o = o >>= λ t. Some (operation.Drop s t.0, t.1)

pub drop_again : {ts r rest : List Token} {s : Bool} {t : Target Name} → ReadsSilent ts s r → ReadsTarget r t rest → drop_at ts ≡ Some (operation.Drop s t, rest)
unfolding drop_at
drop_again {s = s} said t = ap (λ (p : Bool × List Token). dropped p.0 (target_at p.1)) (silent_again said (target_not_silent t)) ∙ ap (dropped s) (target_again t)

abbrev cleared : Bool → Option (Target Name × List Token) → Option (Operation × List Token)
cleared s o = o >>= λ t. Some (operation.Clear s t.0, t.1)

pub clear_again : {ts r rest : List Token} {s : Bool} {t : Target Name} → ReadsSilent ts s r → ReadsTarget r t rest → clear_at ts ≡ Some (operation.Clear s t, rest)
unfolding clear_at
clear_again {s = s} said t = ap (λ (p : Bool × List Token). cleared p.0 (target_at p.1)) (silent_again said (target_not_silent t)) ∙ ap (cleared s) (target_again t)

abbrev carried : Transfer → Bool → Place → Option (Place × List Token) → Option (Operation × List Token)
carried how s from o = o >>= λ t. Some (operation.Transfer how s from t.0, t.1)

abbrev taken_from : Transfer → Bool → Option (Place × List Token) → Option (Operation × List Token)
taken_from how s o = o >>= λ f. keyword_at (codes "TO") f.1 >>= λ u. carried how s f.0 (place_at u)

pub transfer_again : {ts r u v rest : List Token} {s : Bool} {from to : Place} (how : Transfer) → ReadsSilent ts s r → ReadsPlace r from u → ReadsKeyword (codes "TO") u v → ReadsPlace v to rest
    → transfer_at how ts ≡ Some (operation.Transfer how s from to, rest)
unfolding transfer_at
transfer_again {s = s} {from = from} how said first word second =
    ap (λ (p : Bool × List Token). taken_from how p.0 (place_at p.1)) (silent_again said (place_not_silent first))
    ∙ ap (taken_from how s) (place_again first)
    ∙ ap (λ (o : Option (List Token)). o >>= λ u. carried how s from (place_at u)) (keyword_again word)
    ∙ ap (carried how s from) (place_again second)

-- ---- they take a token or more

graph_takes : {ts rest : List Token} {n : Name} → ReadsGraph ts n rest → length rest < length ts
graph_takes (reads.graph {ts} {r} {rest} {n} word is) =
    let a = keyword_takes word in
    let c = name_takes r n rest is in
    omega arith

target_takes : {ts rest : List Token} {t : Target Name} → ReadsTarget ts t rest → length rest < length ts
target_takes (reads.in_graph g) = graph_takes g
target_takes (reads.default word) = keyword_takes word
target_takes (reads.named word) = keyword_takes word
target_takes (reads.all word) = keyword_takes word

place_takes : {ts rest : List Token} {p : Place} → ReadsPlace ts p rest → length rest < length ts
place_takes (reads.default word) = keyword_takes word
place_takes (reads.in_graph g) = graph_takes g
place_takes (reads.name {ts} {rest} {n} is) = name_takes ts n rest is

pub create_takes : {ts r rest : List Token} {s : Bool} {n : Name} → ReadsSilent ts s r → ReadsGraph r n rest → length rest < length ts
create_takes said g =
    let a = silent_keeps said in
    let c = graph_takes g in
    omega arith

pub aim_takes : {ts r rest : List Token} {s : Bool} {t : Target Name} → ReadsSilent ts s r → ReadsTarget r t rest → length rest < length ts
aim_takes said t =
    let a = silent_keeps said in
    let c = target_takes t in
    omega arith

pub transfer_takes : {ts r u v rest : List Token} {s : Bool} {from to : Place} → ReadsSilent ts s r → ReadsPlace r from u → ReadsKeyword (codes "TO") u v → ReadsPlace v to rest → length rest < length ts
transfer_takes said from word to =
    let a = silent_keeps said in
    let c = place_takes from in
    let d = keyword_takes word in
    let e = place_takes to in
    omega arith
