-- Two lists of core instances, where those of one are instances of the other under other numbers.
use Rattle.std.specs.Prelude.{◌≡◌, ℕ, List, Option, None, Some, slice_get}
use Rattle.std.specs.List.{AllZip}
use Rattle.pc_types.specs.declared.module_record.ModuleRecord.{ModuleRecord}
use Rattle.pc_spec_plan.specs.CoreValue.{ExportedItem}
use Rattle.pc_spec_wiring.specs.Origin.{Core, Given, an_end, an_item, of_host, of_record}
use Rattle.pc_spec_wiring.specs.Sharing.{Home, the_component}

-- two ends have one home: none, or that of the component
pub data SameEnd {E F : Type 0} (left_home : E → Option Home) (right_home : F → Option Home) (x : E) (y : F) : Type 0
  where
    both_homeless : left_home x ≡ None → right_home y ≡ None → SameEnd left_home right_home x y
    both_of_component : left_home x ≡ Some the_component → right_home y ≡ Some the_component
        → SameEnd left_home right_home x y

module _ {E F : Type 0} (left_home : E → Option Home) (right_home : F → Option Home) (Is : (left right : ℕ) → Type 0)
  where
    -- what is given is one: an item of instances that are one, or ends of one home
    pub data SameGiven : Given E → Given F → Type 0 where
      same_item : {n k : ℕ} {item : ExportedItem} → Is n k → SameGiven (an_item n item) (an_item k item)
      same_end : {x : E} {y : F} → SameEnd left_home right_home x y → SameGiven (an_end x) (an_end y)

    -- two core instances are one: both of the host, or of one module with the same arguments
    unfoldable pub SameCore : Core E → Core F → Type 0
    SameCore (of_record m r given) (of_record m' r' given') = (m ≡ m') × (r ≡ r') × AllZip SameGiven given given'
    SameCore of_host of_host = Unit {0}
    SameCore c d = ⊥

    module _ (left : List (Core E)) (right : List (Core F)) where
      -- an instance of one list is at most one of the other, and it is the same there
      pub record AreRenumbered : Type 0 where
        pub one_right : (n k l : ℕ) → Is n k → Is n l → k ≡ l
        pub one_left : (n o k : ℕ) → Is n k → Is o k → n ≡ o
        pub same : (n k : ℕ) → Is n k
            → (c : Core E) × (d : Core F) × (slice_get left n ≡ Some c) × (slice_get right k ≡ Some d) × SameCore c d

      -- each instance of a module is there in both lists
      pub record HasAll (number : ℕ) : Type 0 where
        pub to_right : (n : ℕ) (r : ModuleRecord) (given : List (Given E))
            → slice_get left n ≡ Some (of_record number r given) → (k : ℕ) × Is n k
        pub to_left : (k : ℕ) (r : ModuleRecord) (given : List (Given F))
            → slice_get right k ≡ Some (of_record number r given) → (n : ℕ) × Is n k

-- an instance of the first list has this number in the second
abbrev pub HasNumber : (number_of : ℕ → Option ℕ) → (left right : ℕ) → Type 0
HasNumber number_of n k = number_of n ≡ Some k
