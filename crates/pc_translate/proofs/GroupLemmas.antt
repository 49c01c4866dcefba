-- Lists in groups: what is mapped one by one is mapped group by group.
use Rattle.std.proofs.Common.{◌≡◌, List, [], ◌∷◌, ◌++◌, map, refl, sym, ◌∙◌}
use Rattle.std.specs.List.{flat_map}

-- a front of a mapped list is a mapped front
pub record Split {A B : Type 0} (f : A → B) (xs ys : List B) (ns : List A) : Type 0 where
  pub front : List A
  pub rest : List A
  pub front_is : map f front ≡ xs
  pub rest_is : ys ≡ map f rest
  pub all : front ++ rest ≡ ns

pub split_off : {A B : Type 0} (f : A → B) (xs ys : List B) (ns : List A) → xs ++ ys ≡ map f ns → Split f xs ys ns
split_off f [] ys ns same = record { front = []; rest = ns; front_is = refl; rest_is = same; all = refl }
split_off f (x ∷ xs) ys [] same = absurd (let no : ⊥ = cc in no)
split_off f (x ∷ xs) ys (n ∷ ns) same =
    let first : x ≡ f n = cc in
    let others : xs ++ ys ≡ map f ns = cc in
    let s = split_off f xs ys ns others in
    let front = s.front_is in
    let all = s.all in
    record {
      front = n ∷ s.front;
      rest = s.rest;
      front_is = λ i. sym first i ∷ front i;
      rest_is = s.rest_is;
      all = λ i. n ∷ all i;
    }

-- a mapped list in groups is a list in groups, mapped
pub record Regrouped {A B : Type 0} (f : A → B) (gs : List (List B)) (ns : List A) : Type 0 where
  pub groups : List (List A)
  pub are : map (map f) groups ≡ gs
  pub all : flat_map (λ (g : List A). g) groups ≡ ns

pub regroup : {A B : Type 0} (f : A → B) (gs : List (List B)) (ns : List A)
    → flat_map (λ (g : List B). g) gs ≡ map f ns → Regrouped f gs ns
regroup f [] [] same = record { groups = []; are = refl; all = refl }
regroup f [] (n ∷ ns) same = absurd (let no : ⊥ = cc in no)
regroup f (xs ∷ gs) ns same =
    let s = split_off f xs (flat_map (λ g. g) gs) ns same in
    let more = regroup f gs s.rest s.rest_is in
    let front = s.front_is in
    let are = more.are in
    let all = more.all in
    record {
      groups = s.front ∷ more.groups;
      are = λ i. front i ∷ are i;
      all = (λ i. s.front ++ all i) ∙ s.all;
    }

-- two maps, one after the other
pub map_both : {A B C : Type 0} (f : A → B) (h : B → C) (xs : List A) → map h (map f xs) ≡ map (λ x. h (f x)) xs
map_both f h [] = refl
map_both f h (x ∷ xs) = let rest = map_both f h xs in λ i. h (f x) ∷ rest i
