-- Laws of links that are served one after another: none, and one more.
use Rattle.std.proofs.Common.{◌≡◌, ℕ, ◌+◌, List, [], ◌∷◌, ◌++◌, length, map, Option, None, Some, refl, sym, ap}
use Rattle.std.proofs.Common.{subst, ◌∙◌, append_assoc, append-nil, arith}
use Rattle.std.specs.Option.{option_map}
use Rattle.vc_plan.specs.declared.plans.Plan.{Plan}
use Rattle.vc_desk.specs.States.{State}
use Rattle.vc_app_serve.specs.Readying.{TakesNone}
use Rattle.vc_app_serve.specs.Visits.{AreVisits, IsVisit, Links, Serves, ServesOne, Telling, links}

-- a list with one more at its end
length_push : {A : Type 0} (xs : List A) (x : A) → length (xs ++ x ∷ []) ≡ length xs + 1
length_push [] x = refl
length_push (y ∷ xs) x =
    let more : length (xs ++ x ∷ []) ≡ length xs + 1 = length_push xs x in omega (arith, more)

map_push : {A B : Type 0} (f : A → B) (xs : List A) (x : A) → map f (xs ++ x ∷ []) ≡ map f xs ++ f x ∷ []
map_push f [] x = refl
map_push f (y ∷ xs) x = ap (λ ys. f y ∷ ys) (map_push f xs x)

-- links that come: those taken before, and the next
taken_push : {C : Type 0} (xs : List C) (x : C) (before between after : Option (List C))
    → before ≡ option_map (λ later. xs ++ later) between → between ≡ option_map (λ later. x ∷ later) after
    → before ≡ option_map (λ later. (xs ++ x ∷ []) ++ later) after
taken_push xs x before between None p q = p ∙ ap (option_map (λ later. xs ++ later)) q
taken_push xs x before between (Some later) p q =
    p ∙ ap (option_map (λ l. xs ++ l)) q ∙ ap Some (sym (append_assoc xs (x ∷ []) later))

-- links that are done
done_push : {C : Type 0} (xs : List C) (x : C) (before between after : Option (List C))
    → between ≡ option_map (λ earlier. earlier ++ xs) before → after ≡ option_map (λ earlier. earlier ++ x ∷ []) between
    → after ≡ option_map (λ earlier. earlier ++ (xs ++ x ∷ [])) before
done_push xs x None between after p q = q ∙ ap (option_map (λ earlier. earlier ++ x ∷ [])) p
done_push xs x (Some earlier) between after p q =
    q ∙ ap (option_map (λ e. e ++ x ∷ [])) p ∙ ap Some (append_assoc earlier xs (x ∷ []))

taken_none : {C : Type 0} (coming : Option (List C)) → coming ≡ option_map (λ later. [] ++ later) coming
taken_none None = refl
taken_none (Some later) = refl

done_none : {C : Type 0} (finished : Option (List C)) → finished ≡ option_map (λ earlier. earlier ++ []) finished
done_none None = refl
done_none (Some earlier) = ap Some (sym (append-nil earlier))

-- none is served
pub serves_none : {C : Type 0} (tells : Telling C) (plan : Plan) (state : State) (l : Links C) → TakesNone l
    → Serves tells plan state state l 0
serves_none tells plan state l t = record {
  visits = [];
  many = refl;
  talks = refl;
  taken = sym t.coming ∙ taken_none l.coming_after;
  done = t.finished ∙ done_none l.finished_before;
}

-- where none was taken before, those that are served then are all
pub serves_then : {C : Type 0} (tells : Telling C) (plan : Plan) (before after : State)
    (coming coming_between coming_after finished finished_between finished_after : Option (List C)) (count : ℕ)
    → TakesNone (links coming coming_between finished finished_between)
    → Serves tells plan before after (links coming_between coming_after finished_between finished_after) count
    → Serves tells plan before after (links coming coming_after finished finished_after) count
serves_then tells plan before after c0 c1 c2 f0 f1 f2 count t s = record {
  visits = s.visits;
  many = s.many;
  talks = s.talks;
  taken = sym t.coming ∙ s.taken;
  done = s.done ∙ ap (option_map (λ earlier. earlier ++ map (λ visit. visit.1) s.visits)) t.finished;
}

visits_push : {C : Type 0} (tells : Telling C) (plan : Plan) (before : State) (visits : List (C × C)) (between : State)
    (visit : C × C) (after : State)
    → AreVisits tells plan before visits between → IsVisit tells plan between visit after
    → AreVisits tells plan before (visits ++ visit ∷ []) after
visits_push tells plan before [] between visit after are is =
    (after, subst (λ s. IsVisit tells plan s visit after) are is, refl)
visits_push tells plan before (first ∷ visits) between visit after are is =
    (are.0, are.1, visits_push tells plan are.0 visits between visit after are.2 is)

-- one more is served
pub serves_push : {C : Type 0} (tells : Telling C) (plan : Plan) (before between after : State)
    (coming coming_between coming_after finished finished_between finished_after : Option (List C)) (count : ℕ)
    → Serves tells plan before between (links coming coming_between finished finished_between) count
    → ServesOne tells plan between after (links coming_between coming_after finished_between finished_after)
    → Serves tells plan before after (links coming coming_after finished finished_after) (count + 1)
serves_push tells plan before between after c0 c1 c2 f0 f1 f2 count s o = record {
  visits = s.visits ++ o.visit ∷ [];
  many = length_push s.visits o.visit ∙ ap (λ n. n + 1) s.many;
  talks = visits_push tells plan before s.visits between o.visit after s.talks o.talks;
  taken = subst (λ xs. c0 ≡ option_map (λ later. xs ++ later) c2) (sym (map_push (λ v. v.0) s.visits o.visit))
      (taken_push (map (λ v. v.0) s.visits) o.visit.0 c0 c1 c2 s.taken o.taken);
  done = subst (λ xs. f2 ≡ option_map (λ earlier. earlier ++ xs) f0) (sym (map_push (λ v. v.1) s.visits o.visit))
      (done_push (map (λ v. v.1) s.visits) o.visit.1 f0 f1 f2 s.done o.done);
}
