-- What a caller says of a frame.
use Rattle.std.specs.Prelude.{ℕ, List, [], ◌∷◌, length}
use Rattle.frame_pool.specs.declared.frame.Frame.{Frame}

-- the number that the pool knows the frame by
abbrev pub number_of : Frame → ℕ
number_of f = f.number

-- its bytes
abbrev pub bytes_of : Frame → List ℕ
bytes_of f = f.bytes.items

-- how many they are
abbrev pub size_of : Frame → ℕ
size_of f = length f.bytes.items

-- the size of the first of some frames
abbrev pub first_size : List Frame → ℕ
first_size [] = 0
first_size (f ∷ fs) = size_of f
