-- The unsafe intrinsics, in their order.
use Rattle.std.specs.Prelude.{ℕ, List, [], ◌∷◌, codes}

-- the names of the intrinsics, each at its place
abbrev pub intrinsic_names : List (List ℕ)
intrinsic_names =
    codes "store-data-address"
    ∷ codes "u8-native-load" ∷ codes "u8-native-store"
    ∷ codes "u16-native-load" ∷ codes "u16-native-store"
    ∷ codes "u32-native-load" ∷ codes "u32-native-store"
    ∷ codes "u64-native-load" ∷ codes "u64-native-store"
    ∷ codes "u8-checked-native-load" ∷ codes "u8-checked-native-store"
    ∷ codes "u16-checked-native-load" ∷ codes "u16-checked-native-store"
    ∷ codes "u32-checked-native-load" ∷ codes "u32-checked-native-store"
    ∷ codes "u64-checked-native-load" ∷ codes "u64-checked-native-store"
    ∷ codes "context-get-i32-0" ∷ codes "context-set-i32-0"
    ∷ codes "context-get-i32-1" ∷ codes "context-set-i32-1"
    ∷ []
