-- A log of one frame, as SQLite 3.40.1 wrote it on a machine with the least significant byte first: a row on which definitions are computed.
use Rattle.std.specs.Prelude.{ℕ, List, [], ◌∷◌, ◌++◌, replicate}
use Rattle.format_spec.specs.Log.{Frame}

-- a table leaf of 512 bytes with the row (1, 'one')
abbrev pub little_page : List ℕ
little_page = 13 ∷ 0 ∷ 0 ∷ 0 ∷ 1 ∷ 0x01 ∷ 0xf8 ∷ 0 ∷ 0x01 ∷ 0xf8 ∷ replicate 494 0 ++ 6 ∷ 1 ∷ 3 ∷ 0 ∷ 0x13 ∷ 0x6f ∷ 0x6e ∷ 0x65 ∷ []

-- its frame, a commit of two pages
abbrev pub little_frame : Frame
little_frame = record { number = 2; commit = 2; page = little_page }

-- the salt of the log
abbrev pub little_salt : ℕ × ℕ
little_salt = (0xf1243c8e, 0xe38fc12b)

-- the header for pages of 512 bytes
abbrev pub little_header : List ℕ
little_header = 0x37 ∷ 0x7f ∷ 0x06 ∷ 0x82 ∷ 0x00 ∷ 0x2d ∷ 0xe2 ∷ 0x18 ∷ 0x00 ∷ 0x00 ∷ 0x02 ∷ 0x00 ∷ 0x00 ∷ 0x00 ∷ 0x00 ∷ 0x00
    ∷ 0xf1 ∷ 0x24 ∷ 0x3c ∷ 0x8e ∷ 0xe3 ∷ 0x8f ∷ 0xc1 ∷ 0x2b ∷ 0x63 ∷ 0x07 ∷ 0x28 ∷ 0x04 ∷ 0x46 ∷ 0xa2 ∷ 0x8f ∷ 0x8c ∷ []

-- the frame's header
abbrev pub little_frame_header : List ℕ
little_frame_header = 0x00 ∷ 0x00 ∷ 0x00 ∷ 0x02 ∷ 0x00 ∷ 0x00 ∷ 0x00 ∷ 0x02 ∷ 0xf1 ∷ 0x24 ∷ 0x3c ∷ 0x8e ∷ 0xe3 ∷ 0x8f ∷ 0xc1 ∷ 0x2b
    ∷ 0xa6 ∷ 0xbc ∷ 0xde ∷ 0x78 ∷ 0xff ∷ 0xff ∷ 0x64 ∷ 0x67 ∷ []

-- the whole log
abbrev pub little_log : List ℕ
little_log = little_header ++ (little_frame_header ++ little_page)
