-- Tests of what may be missing.
use Rattle.std.proofs.Common.{◌≡◌, Bool, true, Option, Some, None, refl}
use Rattle.std.specs.Prelude.{option_map}

-- whether what is there passes a test
abbrev pub each : {X : Type 0} → (X → Bool) → Option X → Bool
each test None = true
each test (Some x) = test x

pub each_map : {X Y : Type 0} (test : Y → Bool) (f : X → Y) (o : Option X) → ((x : X) → test (f x) ≡ true)
    → each test (option_map f o) ≡ true
each_map test f None h = refl
each_map test f (Some x) h = h x
