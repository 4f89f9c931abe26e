-- Each step on the lock's table keeps its rule.
use Rattle.std.proofs.Common.{◌≡◌, ◌≢◌, ℕ, zero, suc, ◌<◌, eqb, true, false, true≢false, List, [], ◌∷◌, ◌++◌, length, drop, set, get_or, get_or-set_same, length-set, Option, Some, refl, sym, ap, subst, ◌∙◌, ⊎_elim, arith, append-nil}
use Rattle.std.proofs.lemmas.List.{drop_all}
use Rattle.std.proofs.lemmas.List.Elements.{filter-append}
use Rattle.std.proofs.lemmas.Bool.{false_from_ne_true, both_ways}
use Rattle.std.proofs.lemmas.Option.{same_Some}
use mathlib.Core.Logic.{dite}
use mathlib.Core.Option.{some, none, some-injective, some-ne-none}
use native.Mathlib.Decide.{ℕ_discrete}
use lib.ListN.{get_elem?}
use Rattle.atomic_table.specs.Table.{State, Me, step, keeps, takes, gives, Allows, Splits, Joins, Final, Seen, opening}
use Rattle.atomic_table.proofs.Lists.{at_set, set_again, set_here, set_else, at_longer}
use Rattle.blocklock.specs.History.{History, of_worker, AreBelow}
use Rattle.blocklock.specs.declared.view.View.{View}
use Rattle.blocklock.specs.Rule.{Owns, Covers, AllCovered, Follows, Kept, seeing, TakesBook, took, gave, first_view, rest_of, one_of, joined, spent}
use Rattle.atomic_table.specs.Seated.{TableId}
use Rattle.blocklock.specs.Passes.{seated, IsSeatOf, Takes, MayGive}
use Rattle.blocklock.proofs.Journals.{none_of_others, none_below, one_below, more_below, added_below, begins_refl, begins_is, begins_further, at_pushed, set_there}

module _ {S E : Type 0} where
  -- no two seats stand for one worker
  abbrev IsApart : List (View S E) → Type 0
  IsApart views = (j k : ℕ) (u v : View S E) (w : ℕ) → get_elem? views j ≡ some u → get_elem? views k ≡ some v → Owns u w → Owns v w → j ≡ k

  -- one seat's view changes, and it stands for no more workers
  apart_set : (views : List (View S E)) (id : ℕ) (v w : View S E) → IsApart views → get_elem? views id ≡ some v → ((x : ℕ) → Owns w x → Owns v x) → IsApart (set views id w)
  apart_set views id v w apart at less j k a b x ja kb ax bx =
      let was : (i : ℕ) (u : View S E) → get_elem? (set views id w) i ≡ some u → Owns u x → (y : View S E) × (get_elem? views i ≡ some y) × Owns y x
      = λ i u e o. ⊎_elim
      (λ (t : (i ≡ id) × (w ≡ u)). (v, subst (λ (z : ℕ). get_elem? views z ≡ some v) (sym t.0) at, less x (subst (λ (z : View S E). Owns z x) (sym t.1) o)))
      (λ (t : (i ≢ id) × (get_elem? views i ≡ some u)). (u, t.1, o))
      (at_set views id i w u e) in
      let p = was j a ja ax in let q = was k b kb bx in apart j k p.0 q.0 x p.1 q.1 p.2 q.2

  -- what holds of all views, once one has changed
  all_set : (P : ℕ → View S E → Type 0) (views : List (View S E)) (id : ℕ) (w : View S E) → ((k : ℕ) (u : View S E) → k ≢ id → get_elem? views k ≡ some u → P k u) → P id w
      → (k : ℕ) (u : View S E) → get_elem? (set views id w) k ≡ some u → P k u
  all_set P views id w others mine k u e =
      ⊎_elim
      (λ (t : (k ≡ id) × (w ≡ u)). subst (λ (y : ℕ × View S E). P y.0 y.1) (λ i. (sym t.0 i, t.1 i)) mine)
      (λ (t : (k ≢ id) × (get_elem? views k ≡ some u)). others k u t.0 t.1)
      (at_set views id k w u e)

module _ {T S E : Type 0} (worker_of : E → ℕ) (history : T → History S E) where
  abbrev St : Type 0
  St = State (Option T) (View S E)

  abbrev Mine : Type 0
  Mine = Me (Option T) (View S E)

  -- the try finds the book at home
  take_free : (n id : ℕ) (subject : S) (seats start : ℕ) (me : Mine) → me.0.told ≡ [] → (s : St) (r : Kept worker_of history subject seats start s) → length s.homes ≡ n → get_elem? s.views id ≡ some me.0 → get_or s.words 0 0 ≡ 0
      → (b : T) × (get_elem? s.homes 0 ≡ some (some (Some b))) × Kept worker_of history subject seats start (record { words = set s.words 0 1; homes = set s.homes 0 none; views = set s.views id (seeing me.0 (history b).journal true) })
      × TakesBook worker_of history me (seeing me.0 (history b).journal true, (0, Some b) ∷ me.1)
  take_free n id subject seats start me told s r wide at free =
      let home = r.free free in
      let b : T = home.0 in
      let is : history b ≡ record { subject = subject; journal = r.journal } = home.2 in
      let same : (history b).journal ≡ r.journal = ap (λ (h : History S E). h.journal) is in
      let w : View S E = seeing me.0 (history b).journal true in
      let mine : Follows worker_of subject seats r.journal me.0 = r.follow id me.0 at in
      let one : get_or (set s.words 0 1) 0 0 ≡ 1 = get_or-set_same s.words 0 1 0 (omega (arith, r.words)) in (
        b,
        home.1,
        record {
          journal = r.journal;
          workers = r.workers;
          words = length-set s.words 0 1 ∙ r.words;
          follow = all_set (λ _ u. Follows worker_of subject seats r.journal u) s.views id w (λ k u _ e. r.follow k u e)
              (record {
                begins = begins_is r.journal (history b).journal (sym same);
                own = λ x o. ((mine.own x o).0, ap (of_worker worker_of x) (sym same));
                told = subst (AllCovered worker_of me.0.subject (history b).journal) (sym told) tt;
                seat = mine.seat;
                workers = λ x o. none_below worker_of seats;
              });
          apart = apart_set s.views id me.0 w r.apart at (λ x o. o);
          free = λ z. absurd (omega arith);
          taken = λ _. (
            id,
            w,
            set_there s.views id w me.0 at,
            refl,
            same,
            λ k u e yes_it. all_set (λ j y. y.holds ≡ true → j ≡ id) s.views id w (λ j y _ f h. absurd (both_ways y.holds (home.3 j y f) h)) (λ _. refl) k u e yes_it,
          );
        },
        record {
          book = b;
          was_free = home.3 id me.0 at;
          has = refl;
          begins = (mine.begins.0, same ∙ mine.begins.1);
          workers = λ x o. subst (λ n. AreBelow worker_of n mine.begins.0) (sym (mine.seat x o).0) (mine.workers x o);
          own = λ x o. (ap (λ (h : History S E). h.subject) is ∙ sym (mine.own x o).0, ap (of_worker worker_of x) same ∙ (mine.own x o).1);
        },
      )

  -- the try finds it taken
  take_taken : (id : ℕ) (subject : S) (seats start : ℕ) (me : Mine) (s : St) (r : Kept worker_of history subject seats start s) → get_elem? s.views id ≡ some me.0 → get_or s.words 0 0 ≢ 0
      → Kept worker_of history subject seats start (record { words = set s.words 0 1; homes = s.homes; views = set s.views id me.0 })
  take_taken id subject seats start me s r at held =
      let one : get_or (set s.words 0 1) 0 0 ≡ 1 = get_or-set_same s.words 0 1 0 (omega (arith, r.words)) in
      subst (λ vs. Kept worker_of history subject seats start (record { words = set s.words 0 1; homes = s.homes; views = vs })) (sym (set_again s.views id me.0 at))
      (record {
        journal = r.journal;
        workers = r.workers;
        words = length-set s.words 0 1 ∙ r.words;
        follow = r.follow;
        apart = r.apart;
        free = λ z. absurd (omega arith);
        taken = λ _. r.taken held;
      })

  pub takes_book : (n id : ℕ) (subject : S) (seats start : ℕ) (me : Mine) → me.0.told ≡ [] → Allows (Kept worker_of history subject seats start) n id me 0 (λ _. 1) (took worker_of history (step n 0 1 0 none) me)
  takes_book n id subject seats start me told s r wide at _ =
      dite (ℕ_discrete (get_or s.words 0 0) 0)
      (λ free. let t = take_free n id subject seats start me told s r wide at free in (seeing me.0 (history t.0).journal true, takes 0 (Some t.0), t.1, t.2, ((λ _. t.3), (λ held. absurd (held free)))))
      (λ held. (me.0, keeps, tt, take_taken id subject seats start me s r at held, ((λ free. absurd (held free)), (λ _. refl))))

  -- and so the pass of this seat takes it
  pub takes_it : (w : ℕ) (id id' : TableId) (me mid : Mine) (v : View S E) (b : T) → IsSeatOf w me → (t : TakesBook worker_of history me mid) → id' ≡ id → v ≡ mid.0 → b ≡ t.book
      → Takes worker_of (seated id w me.0) (history b) (seated id' w v)
  takes_it w id id' me mid v b seat t same_id same_view same_book =
      let from = seat.from in
      let until = seat.until in
      let mine : Owns me.0 w = (omega arith, omega arith) in
      let own = t.own w mine in
      subst (λ (x : T). Takes worker_of (seated id w me.0) (history x) (seated id' w v)) (sym same_book)
      (record {
        was_free = t.was_free;
        includes = record { subject = own.0; begins = t.begins; mine = own.1; workers = t.workers w mine };
        sees = (λ k. seated (same_id k) w (same_view k)) ∙ ap (λ (m : Mine). seated id w m.0) t.has;
      })

  -- a seat that holds the book has seen all
  held_by : (id : ℕ) (subject : S) (seats start : ℕ) (v : View S E) (s : St) (r : Kept worker_of history subject seats start s) → get_elem? s.views id ≡ some v → v.holds ≡ true
      → (v.seen ≡ r.journal) × (get_or s.words 0 0 ≢ 0) × ((k : ℕ) (u : View S E) → get_elem? s.views k ≡ some u → u.holds ≡ true → k ≡ id)
  held_by id subject seats start v s r at holds =
      dite (ℕ_discrete (get_or s.words 0 0) 0)
      (λ free. absurd (both_ways v.holds ((r.free free).3 id v at) holds))
      (λ held. let out = r.taken held in let here : id ≡ out.0 = out.5 id v at holds in
      let same : v ≡ out.1 = some-injective v out.1 (sym at ∙ (ap (get_elem? s.views) here ∙ out.2)) in
      (ap (λ (y : View S E). y.seen) same ∙ out.4, held, λ k u e h. out.5 k u e h ∙ sym here))

  -- the book may be given back: it goes on from what the seat has seen by entries of the seat's
  -- workers
  pub record MayGiveBook (v : View S E) (b : T) : Type 0 where
    pub holds : v.holds ≡ true
    pub told : v.told ≡ []
    pub worker : ℕ
    pub stands : Owns v worker
    pub subject : (history b).subject ≡ v.subject
    pub more : List E
    pub goes_on : (history b).journal ≡ v.seen ++ more
    pub mine : of_worker worker_of worker more ≡ more
    pub none_else : (w : ℕ) → (Owns v w → ⊥) → of_worker worker_of w more ≡ []

  gives_at : (n id : ℕ) (subject : S) (seats start : ℕ) (v : View S E) (b : T) (rest_slots : List (ℕ × Option T)) → 0 < n → MayGiveBook v b → (s : St) (r : Kept worker_of history subject seats start s) → length s.homes ≡ n → get_elem? s.views id ≡ some v
      → Kept worker_of history subject seats start (record { words = set s.words 0 0; homes = set s.homes 0 (some (Some b)); views = set s.views id (seeing v (history b).journal false) })
  gives_at n id subject seats start v b rest_slots some_slot may s r wide at =
      let held = held_by id subject seats start v s r at may.holds in
      let now : List E = (history b).journal in
      let w : View S E = seeing v now false in
      let mine : Follows worker_of subject seats r.journal v = r.follow id v at in
      let goes : now ≡ r.journal ++ may.more = may.goes_on ∙ ap (λ l. l ++ may.more) held.0 in
      let zero_now : get_or (set s.words 0 0) 0 0 ≡ 0 = get_or-set_same s.words 0 0 0 (omega (arith, r.words)) in
      let subjects : v.subject ≡ subject = (mine.own may.worker may.stands).0 in
      let below : AreBelow worker_of seats may.more = one_below worker_of may.worker seats may.more may.mine (mine.seat may.worker may.stands).1 in
      record {
        journal = now;
        workers = subst (λ l. AreBelow worker_of seats (drop start l)) (sym goes) (added_below worker_of seats start r.journal may.more r.workers below);
        words = length-set s.words 0 0 ∙ r.words;
        follow = all_set (λ _ u. Follows worker_of subject seats now u) s.views id w
            (λ k u other e. let f = r.follow k u e in record {
              begins = begins_further now r.journal u.seen may.more f.begins goes;
              own = λ x o. let p = f.own x o in (
                p.0,
                ap (of_worker worker_of x) goes
                    ∙ (filter-append (λ e. eqb (worker_of e) x) r.journal may.more
                    ∙ (ap (λ l. of_worker worker_of x r.journal ++ l) (may.none_else x (λ m. other (r.apart k id u v x e at o m)))
                    ∙ (append-nil (of_worker worker_of x r.journal) ∙ p.1))),
              );
              told = f.told;
              seat = f.seat;
              workers = λ x o. more_below worker_of seats f.begins.0 may.more (f.workers x o) below;
            })
            (record {
              begins = begins_refl now;
              own = λ x o. ((mine.own x o).0, refl);
              told = subst (AllCovered worker_of v.subject now) (sym may.told) tt;
              seat = mine.seat;
              workers = λ x o. none_below worker_of seats;
            });
        apart = apart_set s.views id v w r.apart at (λ x o. o);
        free = λ _. (
          b,
          set_here s.homes 0 (some (Some b)) (omega arith),
          λ i. record { subject = (may.subject ∙ subjects) i; journal = now },
          all_set (λ _ u. u.holds ≡ false) s.views id w (λ k u other e. false_from_ne_true u.holds (λ h. other (held.2 k u e h))) refl,
        );
        taken = λ ne. absurd (ne zero_now);
      }

  pub gives_book : (n id : ℕ) (subject : S) (seats start : ℕ) (v : View S E) (b : T) (more : List (ℕ × Option T)) (me : Mine) → me ≡ (v, (0, Some b) ∷ more) → 0 < n → MayGiveBook v b
      → Allows (Kept worker_of history subject seats start) n id me 0 (λ _. 0) (λ _. gave history (step n 0 0 0 none) me 0)
  gives_book n id subject seats start v b more me is some_slot may =
      subst (λ (m : Mine). Allows (Kept worker_of history subject seats start) n id m 0 (λ _. 0) (λ _. gave history (step n 0 0 0 none) m 0)) (sym is)
      (λ s r wide at _. (
        seeing v (history b).journal false,
        gives,
        tt,
        gives_at n id subject seats start v b more some_slot may s r wide at,
        λ b' is'. let same : b ≡ b' = slot_is b b' is' in λ i. (seeing v (history (same i)).journal false, more),
      ))
    where
      first_same : (p q : ℕ × Option T) → p ∷ more ≡ q ∷ more → p ≡ q
      first_same p q e = cc

      slot_is : (x y : T) → (0, Some x) ∷ more ≡ (0, Some y) ∷ more → x ≡ y
      slot_is x y e = same_Some x y (ap (λ (p : ℕ × Option T). p.1) (first_same (0, Some x) (0, Some y) e))

  pub may_give : (w : ℕ) (me : Mine) (table : TableId) (b : T) → IsSeatOf w me → MayGive worker_of (seated table w me.0) (history b) → MayGiveBook me.0 b
  may_give w me table b seat may = let from = seat.from in let until = seat.until in record {
    holds = may.holds;
    told = seat.told;
    worker = w;
    stands = (omega arith, omega arith);
    subject = may.subject;
    more = may.goes_on.0;
    goes_on = may.goes_on.1;
    mine = may.goes_on.2;
    none_else = λ x other. none_of_others worker_of w x may.goes_on.0 may.goes_on.2 (λ e. other (omega arith, omega arith));
  }

  -- a seat that stands for several workers gives the first of them away
  pub deals : (id : ℕ) (subject : S) (seats start : ℕ) (v : View S E) → v.holds ≡ false → v.told ≡ [] → v.from < v.until → Splits (Kept worker_of history subject seats start) id v (rest_of v) (one_of v)
  deals id subject seats start v idle told more s r at =
      let left : View S E = rest_of v in
      let right : View S E = one_of v in
      let vs : List (View S E) = set s.views id left in
      let mine : Follows worker_of subject seats r.journal v = r.follow id v at in
      let part : (w : View S E) → w.seen ≡ v.seen → w.subject ≡ v.subject → w.told ≡ v.told → w.seats ≡ v.seats → ((x : ℕ) → Owns w x → Owns v x) → Follows worker_of subject seats r.journal w
      = λ w seen same_subject same_told same_seats less. record {
        begins = (mine.begins.0, mine.begins.1 ∙ ap (λ l. l ++ mine.begins.0) (sym seen));
        own = λ x o. let p = mine.own x (less x o) in (same_subject ∙ p.0, p.1 ∙ ap (of_worker worker_of x) (sym seen));
        told = subst (AllCovered worker_of w.subject w.seen) (sym (same_told ∙ told)) tt;
        seat = λ x o. let p = mine.seat x (less x o) in (same_seats ∙ p.0, p.1);
        workers = λ x o. mine.workers x (less x o);
      } in
      let left_less : (x : ℕ) → Owns left x → Owns v x = λ x o. (omega arith, o.1) in
      let right_less : (x : ℕ) → Owns right x → Owns v x = λ x o. (o.0, omega arith) in
      let all : (P : ℕ → View S E → Type 0) → ((k : ℕ) (u : View S E) → k ≢ id → get_elem? s.views k ≡ some u → P k u) → P id left → P (length vs) right → (k : ℕ) (u : View S E) → get_elem? (vs ++ right ∷ []) k ≡ some u → P k u
      = λ P others one two k u e. ⊎_elim (λ was. all_set P s.views id left others one k u was) (λ (t : (k ≡ length vs) × (right ≡ u)). subst (λ (y : ℕ × View S E). P y.0 y.1) (λ i. (sym t.0 i, t.1 i)) two) (at_pushed vs right u k e) in
      let unheld : (k : ℕ) (u : View S E) → u.holds ≡ true → right ≡ u → ⊥ = λ k u h e. both_ways u.holds (ap (λ (y : View S E). y.holds) (sym e) ∙ idle) h in
      record {
        journal = r.journal;
        workers = r.workers;
        words = r.words;
        follow = all (λ _ u. Follows worker_of subject seats r.journal u) (λ k u _ e. r.follow k u e) (part left refl refl refl refl left_less) (part right refl refl refl refl right_less);
        apart = λ j k a b x ja kb ax bx.
            ⊎_elim
            (λ (old_a : get_elem? vs j ≡ some a). ⊎_elim
            (λ (old_b : get_elem? vs k ≡ some b). apart_set s.views id v left r.apart at left_less j k a b x old_a old_b ax bx)
            (λ (t : (k ≡ length vs) × (right ≡ b)). absurd (new_apart s.views id v r.apart at more j a x old_a ax (subst (λ (y : View S E). Owns y x) (sym t.1) bx)))
            (at_pushed vs right b k kb))
            (λ (t : (j ≡ length vs) × (right ≡ a)). ⊎_elim
            (λ (old_b : get_elem? vs k ≡ some b). absurd (new_apart s.views id v r.apart at more k b x old_b bx (subst (λ (y : View S E). Owns y x) (sym t.1) ax)))
            (λ (q : (k ≡ length vs) × (right ≡ b)). t.0 ∙ sym q.0)
            (at_pushed vs right b k kb))
            (at_pushed vs right a j ja);
        free = λ z. let home = r.free z in (home.0, home.1, home.2, all (λ _ u. u.holds ≡ false) (λ k u _ e. home.3 k u e) idle idle);
        taken = λ ne. let out = r.taken ne in
            let apart : out.0 ≢ id = λ e. both_ways v.holds idle (ap (λ (y : View S E). y.holds) (some-injective v out.1 (sym at ∙ (ap (get_elem? s.views) (sym e) ∙ out.2))) ∙ out.3) in (
              out.0,
              out.1,
              at_longer vs (right ∷ []) out.0 out.1 (set_else s.views id out.0 left apart ∙ out.2),
              out.3,
              out.4,
              all (λ k u. u.holds ≡ true → k ≡ out.0) (λ k u _ e h. out.5 k u e h) (λ h. absurd (both_ways v.holds idle h)) (λ h. absurd (both_ways v.holds idle h)),
            );
      }
    where
      new_apart : (views : List (View S E)) (id : ℕ) (v : View S E) → IsApart views → get_elem? views id ≡ some v → v.from < v.until → (j : ℕ) (a : View S E) (x : ℕ) → get_elem? (set views id (rest_of v)) j ≡ some a → Owns a x → Owns (one_of v) x → ⊥
      new_apart views id v apart at more j a x ja ax bx =
          ⊎_elim
          (λ (t : (j ≡ id) × (rest_of v ≡ a)). let o = subst (λ (y : View S E). Owns y x) (sym t.1) ax in absurd (omega arith))
          (λ (t : (j ≢ id) × (get_elem? views j ≡ some a)). t.0 (apart j id a v x t.1 at ax (bx.0, omega arith)))
          (at_set views id j (rest_of v) a ja)

  -- the seat that holds the book takes in another, which stands for a worker
  pub takes_in : (any : S) (id : ℕ) (subject : S) (seats start : ℕ) (v : View S E) (other : ℕ) (w : View S E) → v.holds ≡ true → Owns v v.from → Owns w w.from → Joins (Kept worker_of history subject seats start) id v other w (joined v w) (spent any)
  takes_in any id subject seats start v other w holds mine_stands stands s r at apart there =
      let held = held_by id subject seats start v s r at holds in
      let both : View S E = joined v w in
      let vs : List (View S E) = set s.views id both in
      let here : get_elem? s.views other ≡ some w = sym (set_else s.views id other both apart) ∙ there in
      let mine : Follows worker_of subject seats r.journal v = r.follow id v at in
      let theirs : Follows worker_of subject seats r.journal w = r.follow other w here in
      let own = theirs.own w.from stands in
      let covers : Covers worker_of v.subject v.seen (record { worker = w.from; subject = w.subject; seen = w.seen; seats = w.seats }) = record {
        same_subject = own.0 ∙ sym (mine.own v.from mine_stands).0;
        begins = (theirs.begins.0, held.0 ∙ theirs.begins.1);
        own = ap (of_worker worker_of w.from) held.0 ∙ own.1;
        workers = subst (λ n. AreBelow worker_of n theirs.begins.0) (sym (theirs.seat w.from stands).0) (theirs.workers w.from stands);
      } in
      let all : (P : ℕ → View S E → Type 0) → ((k : ℕ) (u : View S E) → k ≢ id → get_elem? s.views k ≡ some u → P k u) → P id both → P other (spent any) → (k : ℕ) (u : View S E) → get_elem? (set vs other (spent any)) k ≡ some u → P k u
      = λ P others one two. all_set P vs other (spent any) (λ k u _ e. all_set P s.views id both others one k u e) two in
      record {
        journal = r.journal;
        workers = r.workers;
        words = r.words;
        follow = all (λ _ u. Follows worker_of subject seats r.journal u) (λ k u _ e. r.follow k u e)
            (record { begins = mine.begins; own = mine.own; told = (covers, mine.told); seat = mine.seat; workers = mine.workers })
            (record { begins = (r.journal, refl); own = λ x o. absurd (omega arith); told = tt; seat = λ x o. absurd (omega arith); workers = λ x o. absurd (omega arith) });
        apart = apart_set vs other w (spent any) (apart_set s.views id v both r.apart at (λ x o. o)) there (λ x o. absurd (omega arith));
        free = λ z. absurd (held.1 z);
        taken = λ ne. (
          id,
          both,
          set_else vs other id (spent any) (λ e. apart (sym e)) ∙ set_there s.views id both v at,
          holds,
          held.0,
          all (λ k u. u.holds ≡ true → k ≡ id) (λ k u _ e h. held.2 k u e h) (λ _. refl) (λ h. absurd (true≢false (sym h))),
        );
      }

  -- the table at the start
  pub starts : (b : T) (h : History S E) (seats : ℕ) → history b ≡ h → Kept worker_of history h.subject seats (length h.journal) (opening (0 ∷ []) (Some b ∷ []) (first_view seats h))
  starts b h seats is = record {
    journal = h.journal;
    workers = subst (AreBelow worker_of seats) (sym (drop_all (length h.journal) h.journal (omega arith))) (none_below worker_of seats);
    words = refl;
    follow = only (λ _ u. Follows worker_of h.subject seats h.journal u) (record { begins = begins_refl h.journal; own = λ x o. (refl, refl); told = tt; seat = λ x o. (refl, o.1); workers = λ x o. none_below worker_of seats });
    apart = λ j k u v x ju kv _ _. at_zero j u ju ∙ sym (at_zero k v kv);
    free = λ _. (b, refl, is, only (λ _ u. u.holds ≡ false) refl);
    taken = λ ne. absurd (ne refl);
  }
    where
      at_zero : (k : ℕ) (u : View S E) → get_elem? (first_view seats h ∷ []) k ≡ some u → k ≡ 0
      at_zero zero u e = refl
      at_zero (suc k) u e = absurd (some-ne-none u (sym e))

      only : (P : ℕ → View S E → Type 0) → P 0 (first_view seats h) → (k : ℕ) (u : View S E) → get_elem? (first_view seats h ∷ []) k ≡ some u → P k u
      only P p zero u e = subst (P 0) (some-injective (first_view seats h) u e) p
      only P p (suc k) u e = absurd (some-ne-none u (sym e))

  -- the last state covers all that were taken in
  pub closes : (id : ℕ) (subject : S) (seats start : ℕ) (v : View S E) (ws : List ℕ) (xs : List (Option T)) → Final (Seen (Kept worker_of history subject seats start) id v) ws xs → AllCovered worker_of v.subject v.seen v.told
  closes id subject seats start v ws xs f = let end = f.1 in let r = end.0 in let mine : Follows worker_of subject seats r.journal v = r.follow id v end.1 in mine.told

  -- and all that the seat that holds the book has seen beyond the start is of workers who have seats
  pub closes_below : (id : ℕ) (subject : S) (seats start : ℕ) (v : View S E) (ws : List ℕ) (xs : List (Option T)) → v.holds ≡ true → Final (Seen (Kept worker_of history subject seats start) id v) ws xs
      → AreBelow worker_of seats (drop start v.seen)
  closes_below id subject seats start v ws xs holds f =
      let end = f.1 in
      subst (λ l. AreBelow worker_of seats (drop start l)) (sym (held_by id subject seats start v f.0 end.0 end.1 holds).0) end.0.workers
