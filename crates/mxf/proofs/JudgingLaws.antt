-- What the definitions of Judging say on each way through the code, over plain values.
--
-- In order: a field; the key; the head; a structure's front; its array; one without a fault; the structures; the element.
-- Assumes nothing.
use Prim.Native.Nat.{ℕ, suc, ◌+◌, ◌-◌, ◌*◌, ◌≤◌, ◌<◌}
use mathlib.Core.Path.{◌≡◌, refl, sym, ap, ◌∙◌, subst}
use mathlib.Core.Bool.{Bool, true, false, cond, not, ◌&&◌, ◌||◌}
use mathlib.Core.Logic.{◌⊎◌, ⊎_elim}
use mathlib.Core.List.{List}
use native.Mathlib.Nat.{add-zero, sub-zero}
use native.Mathlib.Numerals.{add-one}
use native.Mathlib.Omega.{arith}
use lib.Dec.{eqb, ltb, leb}
use lib.ListN.{length, get_or, take, drop, length-drop, drop_of_length-le}
use lib.Seq.{length-take-le, get_or-drop, drop-cons, drop-drop}
use borrow.Author.Tests.{lt-ltb, le-ltb, eq-eqb, ne_eqb, le-leb, lt-leb}
use Rattle.rules.specs.Systems.{system, stands}
use Rattle.rules.specs.Packet.{Packet}
use Rattle.rules.specs.Danc.{bytes_of, string_byte_count}
use Rattle.rules.specs.Sheet.{sheet_of}
use Rattle.rules.specs.Numbers.{Outcome, listed, refused, also}
use Rattle.rules.proofs.Basics.{second-false, rest_part}
use Rattle.rules.proofs.Sheets.{sheet-length}
use Rattle.mxf.specs.Element.{Coding, eight, ten, luma as lumaOf, colour as colourOf, key, wrapping}
use Rattle.mxf.specs.Judging.{
  two_in,
  three_in,
  four_in,
  field,
  in_frame,
  is_coding,
  others,
  is_count,
  array_for,
  size_in,
  dc_in,
  dc_bytes,
  front_then,
  array_then,
  packet_in,
  structures,
  key_then,
  head_then,
  judged_as,
}
use Rattle.mxf.specs.Reading.{read_of}
use Rattle.mxf.specs.Parts.{beside, Whole, Passes, counted, add_to, whole_from}
use Rattle.mxf.specs.declared.ElementRead.{ElementRead}

-- ---- a field

-- bytes are missing
missing : (at : ℕ) (s : List ℕ) (end : ℕ) (next : Outcome) (place : ℕ) → place ≡ at + length s → length s < end
    → cond (ltb (length s) end) (refused 19 (at + length s)) next ≡ refused 19 place
missing at s end next place e l = rw (lt-ltb (length s) end l, ← e)

-- the bytes are there, and the field is wrong, or right
wrong : (at : ℕ) (s : List ℕ) (i size : ℕ) (test : Bool) (next : Outcome) (place : ℕ) → place ≡ at + i → i + size ≤ length s → test ≡ false
    → field at s i size test next ≡ refused 19 place
wrong at s i size test next place e l w = rw (le-ltb (length s) (i + size) l, w, ← e)

pub right : (at : ℕ) (s : List ℕ) (i size : ℕ) (test : Bool) (next : Outcome) → i + size ≤ length s → test ≡ true
    → field at s i size test next ≡ next
right at s i size test next l w = rw (le-ltb (length s) (i + size) l, w)

-- ---- the key

key-long : length key ≡ 16
unfolding key
key-long = refl

key-turn : (i : ℕ) (e : List ℕ) (o : Outcome) → i < 16
    → key_then i (drop i key) e o ≡ field 0 e i 1 (eqb (get_or e i 0) (get_or key i 0)) (key_then (suc i) (drop (suc i) key) e o)
key-turn i e o l = let k = key-long in rw (drop-cons key i 0 (omega arith))

-- byte i of the key
module _ (i : ℕ) (e : List ℕ) (o : Outcome) (l : i < 16) where
  pub key-missing : i ≡ length e → key_then i (drop i key) e o ≡ refused 19 i
  key-missing h = key-turn i e o l ∙ missing 0 e (i + 1) _ i (omega arith) (omega arith)

  pub key-differs : i < length e → (get_or e i 0 ≡ get_or key i 0 → ⊥) → key_then i (drop i key) e o ≡ refused 19 i
  key-differs m h =
      key-turn i e o l
      ∙ wrong 0 e i 1 _ _ i (omega arith) (omega arith) (ne_eqb (get_or e i 0) (get_or key i 0) h)

  pub key_more : i < length e → get_or e i 0 ≡ get_or key i 0 → key_then i (drop i key) e o ≡ key_then (i + 1) (drop (i + 1) key) e o
  key_more m h =
      rw (add-one i) (key-turn i e o l ∙ right 0 e i 1 _ _ (omega arith) (eq-eqb (get_or e i 0) (get_or key i 0) h))

pub key-end : (i : ℕ) (e : List ℕ) (o : Outcome) → i ≡ 16 → key_then i (drop i key) e o ≡ o
unfolding key
key-end i e o h = rw h

-- ---- the head

module _ (e : List ℕ) (o : Outcome) where
  abbrev from_form : Outcome
  from_form =
      field 0 e 16 1 (eqb (get_or e 16 0) 0x83) (field 0 e 17 3 (eqb (20 + three_in e 17) (length e)) (field 0 e 20 2 true o))

  pub key-wrong : (place : ℕ) → ((o : Outcome) → key_then 0 key e o ≡ refused 19 place) → head_then e o ≡ refused 19 place
  unfolding head_then
  key-wrong place found = found from_form

  -- all bytes of the key were found
  module _ (all : (o : Outcome) → key_then 0 key e o ≡ o) where
    from-form : head_then e o ≡ from_form
    unfolding head_then
    from-form = all from_form

    pub form-missing : length e < 17 → head_then e o ≡ refused 19 (length e)
    form-missing l = from-form ∙ missing 0 e 17 _ (length e) (omega arith) l

    module _ (l17 : 17 ≤ length e) where
      pub form-wrong : (get_or e 16 0 ≡ 0x83 → ⊥) → head_then e o ≡ refused 19 16
      form-wrong h = from-form ∙ wrong 0 e 16 1 _ _ 16 (omega arith) l17 (ne_eqb (get_or e 16 0) 0x83 h)

      module _ (form : get_or e 16 0 ≡ 0x83) where
        from-length : head_then e o ≡ field 0 e 17 3 (eqb (20 + three_in e 17) (length e)) (field 0 e 20 2 true o)
        from-length = from-form ∙ right 0 e 16 1 _ _ l17 (eq-eqb (get_or e 16 0) 0x83 form)

        pub length-missing : length e < 20 → head_then e o ≡ refused 19 (length e)
        length-missing l = from-length ∙ missing 0 e 20 _ (length e) (omega arith) l

        module _ (l20 : 20 ≤ length e) where
          pub length-wrong : (20 + three_in e 17 ≡ length e → ⊥) → head_then e o ≡ refused 19 17
          length-wrong h =
              from-length ∙ wrong 0 e 17 3 _ _ 17 (omega arith) l20 (ne_eqb (20 + three_in e 17) (length e) h)

          module _ (long : 20 + three_in e 17 ≡ length e) where
            from-n : head_then e o ≡ field 0 e 20 2 true o
            from-n = from-length ∙ right 0 e 17 3 _ _ l20 (eq-eqb (20 + three_in e 17) (length e) long)

            pub n-missing : length e < 22 → head_then e o ≡ refused 19 (length e)
            n-missing l = from-n ∙ missing 0 e 22 _ (length e) (omega arith) l

            pub head-right : 22 ≤ length e → head_then e o ≡ o
            head-right l = from-n ∙ right 0 e 20 2 true o l refl

-- ---- a structure's front

either_second : (a b : Bool) → b ≡ true → (a || b) ≡ true
either_second true b e = refl
either_second false b e = e

module _ (c : Coding) (sys last at : ℕ) (s : List ℕ) (is : last ≡ (system sys).last) (o : Outcome) where
  pub line-missing : length s < 2 → front_then c sys at s o ≡ refused 19 (at + length s)
  unfolding front_then
  line-missing l = missing at s 2 _ (at + length s) refl l

  module _ (l2 : 2 ≤ length s) where
    line-wrong : in_frame (system sys) (two_in s 0) ≡ false → front_then c sys at s o ≡ refused 19 at
    unfolding front_then
    line-wrong w = wrong at s 0 2 _ _ at (omega arith) l2 w

    pub line-none : two_in s 0 ≡ 0 → front_then c sys at s o ≡ refused 19 at
    line-none z = line-wrong (rw (eq-eqb (two_in s 0) 0 z))

    pub line-past : last < two_in s 0 → front_then c sys at s o ≡ refused 19 at
    unfolding stands
    line-past p =
        line-wrong (second-false (not (eqb (two_in s 0) 0)) (stands (system sys) (two_in s 0)) (rw (← is) (lt-leb (two_in s 0) last p)))

    module _ (some : two_in s 0 ≡ 0 → ⊥) (within : two_in s 0 ≤ last) where
      in_frame_lem : in_frame (system sys) (two_in s 0) ≡ true
      unfolding stands
      in_frame_lem = rw (ne_eqb (two_in s 0) 0 some, ← is) (le-leb (two_in s 0) last within)

      from-wrapping : front_then c sys at s o ≡ field at s 2 1 (eqb (get_or s 2 0) (wrapping sys)) (field at s 3 1 (is_coding c (get_or s 3 0)) o)
      unfolding front_then
      from-wrapping = right at s 0 2 _ _ l2 in_frame_lem

      pub wrapping-missing : length s < 3 → front_then c sys at s o ≡ refused 19 (at + length s)
      wrapping-missing l = from-wrapping ∙ missing at s 3 _ (at + length s) refl l

      module _ (l3 : 3 ≤ length s) (w : ℕ) (wraps : w ≡ wrapping sys) where
        pub wrapping-wrong : (get_or s 2 0 ≡ w → ⊥) → front_then c sys at s o ≡ refused 19 (at + 2)
        wrapping-wrong h =
            from-wrapping
            ∙ wrong at s 2 1 _ _ (at + 2) refl l3 (ne_eqb (get_or s 2 0) (wrapping sys) (λ z. h (z ∙ sym wraps)))

        module _ (wrapped : get_or s 2 0 ≡ w) where
          from-coding : front_then c sys at s o ≡ field at s 3 1 (is_coding c (get_or s 3 0)) o
          from-coding = from-wrapping ∙ right at s 2 1 _ _ l3 (eq-eqb (get_or s 2 0) (wrapping sys) (wrapped ∙ wraps))

          pub coding-missing : length s < 4 → front_then c sys at s o ≡ refused 19 (at + length s)
          coding-missing l = from-coding ∙ missing at s 4 _ (at + length s) refl l

          module _ (l4 : 4 ≤ length s) where
            pub coding-wrong : (get_or s 3 0 ≡ lumaOf c → ⊥) → (get_or s 3 0 ≡ colourOf c → ⊥) → front_then c sys at s o ≡ refused 19 (at + 3)
            coding-wrong h k =
                from-coding
                ∙ wrong at s 3 1 (is_coding c (get_or s 3 0)) o (at + 3) refl l4
                (rw (ne_eqb (get_or s 3 0) (lumaOf c) h, ne_eqb (get_or s 3 0) (colourOf c) k))

            pub luma : get_or s 3 0 ≡ lumaOf c → front_then c sys at s o ≡ o
            luma h = from-coding ∙ right at s 3 1 (is_coding c (get_or s 3 0)) o l4 (rw (eq-eqb (get_or s 3 0) (lumaOf c) h))

            pub colour : get_or s 3 0 ≡ colourOf c → front_then c sys at s o ≡ o
            colour h = from-coding ∙ right at s 3 1 (is_coding c (get_or s 3 0)) o l4
                (either_second (eqb (get_or s 3 0) (lumaOf c)) (eqb (get_or s 3 0) (colourOf c)) (eq-eqb (get_or s 3 0) (colourOf c) h))

-- ---- its array

-- it reaches over DC
over-dc : (c : Coding) (n : ℕ) → others c ≤ n → 2 + dc_bytes c ≤ array_for c n
over-dc eight n l = l
over-dc ten n l = omega arith

module _ (c : Coding) (at : ℕ) (s : List ℕ) (o : Outcome) where
  abbrev from_dc : Outcome
  from_dc = field at s 16 (dc_bytes c) (eqb (dc_in c s + others c) (two_in s 4)) o

  abbrev from_element : Outcome
  from_element = field at s 10 4 (eqb (four_in s 10) 1) from_dc

  abbrev is_array : Bool
  is_array = leb (array_for c (two_in s 4)) (four_in s 6) && leb (size_in s) (length s)

  abbrev from_array : Outcome
  from_array = field at s 6 4 is_array from_element

  pub count-missing : length s < 6 → array_then c at s o ≡ refused 19 (at + length s)
  unfolding array_then
  count-missing l = missing at s 6 _ (at + length s) refl l

  module _ (l6 : 6 ≤ length s) where
    count-wrong : is_count c (two_in s 4) ≡ false → array_then c at s o ≡ refused 19 (at + 4)
    unfolding array_then
    count-wrong w = wrong at s 4 2 _ _ (at + 4) refl l6 w

    pub too_few : two_in s 4 < others c → array_then c at s o ≡ refused 19 (at + 4)
    too_few l = count-wrong (rw (lt-leb (others c) (two_in s 4) l))

    pub too_many : others c + 255 < two_in s 4 → array_then c at s o ≡ refused 19 (at + 4)
    too_many l = count-wrong (second-false (leb (others c) (two_in s 4)) (leb (two_in s 4) (others c + 255)) (lt-leb (two_in s 4) (others c + 255) l))

    module _ (least : others c ≤ two_in s 4) (most : two_in s 4 ≤ others c + 255) where
      from-array : array_then c at s o ≡ from_array
      unfolding array_then
      from-array =
          right at s 4 2 (is_count c (two_in s 4)) from_array l6
          (rw (le-leb (others c) (two_in s 4) least) (le-leb (two_in s 4) (others c + 255) most))

      pub array-missing : length s < 10 → array_then c at s o ≡ refused 19 (at + length s)
      array-missing l = from-array ∙ missing at s 10 _ (at + length s) refl l

      module _ (l10 : 10 ≤ length s) where
        pub array-small : four_in s 6 < array_for c (two_in s 4) → array_then c at s o ≡ refused 19 (at + 6)
        array-small l =
            from-array
            ∙ wrong at s 6 4 is_array from_element (at + 6) refl l10 (rw (lt-leb (array_for c (two_in s 4)) (four_in s 6) l))

        pub array-past : length s < size_in s → array_then c at s o ≡ refused 19 (at + 6)
        array-past l =
            from-array
            ∙ wrong at s 6 4 _ _ (at + 6) refl l10
            (second-false (leb (array_for c (two_in s 4)) (four_in s 6)) (leb (size_in s) (length s)) (lt-leb (size_in s) (length s) l))

        module _ (room : array_for c (two_in s 4) ≤ four_in s 6) (there : size_in s ≤ length s) where
          from-element : array_then c at s o ≡ from_element
          from-element =
              from-array
              ∙ right at s 6 4 is_array from_element l10
              (rw (le-leb (array_for c (two_in s 4)) (four_in s 6) room) (le-leb (size_in s) (length s) there))

          pub element-wrong : (four_in s 10 ≡ 1 → ⊥) → array_then c at s o ≡ refused 19 (at + 10)
          element-wrong h =
              from-element ∙ wrong at s 10 4 _ _ (at + 10) refl (omega arith) (ne_eqb (four_in s 10) 1 h)

          module _ (single : four_in s 10 ≡ 1) where
            from-dc : array_then c at s o ≡ from_dc
            from-dc = from-element ∙ right at s 10 4 _ _ (omega arith) (eq-eqb (four_in s 10) 1 single)

            dc-there : 16 + dc_bytes c ≤ length s
            dc-there = let l = over-dc c (two_in s 4) least in omega arith

            pub dc-wrong : (dc_in c s + others c ≡ two_in s 4 → ⊥) → array_then c at s o ≡ refused 19 (at + 16)
            dc-wrong h =
                from-dc ∙ wrong at s 16 (dc_bytes c) _ _ (at + 16) refl dc-there (ne_eqb (dc_in c s + others c) (two_in s 4) h)

            pub array-right : dc_in c s + others c ≡ two_in s 4 → array_then c at s o ≡ o
            array-right h = from-dc ∙ right at s 16 (dc_bytes c) _ _ dc-there (eq-eqb (dc_in c s + others c) (two_in s 4) h)

-- ---- one without a fault

-- its line, wrapping and coding are right, and its array
pub passes : (c : Coding) (sys last : ℕ) (s : List ℕ) → last ≡ (system sys).last → (two_in s 0 ≡ 0 → ⊥) → two_in s 0 ≤ last
    → get_or s 2 0 ≡ wrapping sys → (get_or s 3 0 ≡ lumaOf c) ⊎ (get_or s 3 0 ≡ colourOf c) → Whole c s → two_in s 4 ≤ others c + 255
    → four_in s 10 ≡ 1 → Passes c sys s
passes c sys last s is some within wrapped coded w most single at o =
    let a = w.there in
    let b = w.room in
    let d = w.dc in
    let next : Outcome = array_then c (22 + at) s o in
    ⊎_elim
    (luma c sys last (22 + at) s is next (omega arith) some within (omega arith) _ refl wrapped (omega arith))
    (colour c sys last (22 + at) s is next (omega arith) some within (omega arith) _ refl wrapped (omega arith))
    coded
    ∙ array-right c (22 + at) s o (omega arith) (omega arith) most (omega arith) b a single d

-- ---- the structures

-- a sample takes a byte at least, and a packet has few words beside them
pub array-least : (c : Coding) (n : ℕ) → n ≤ array_for c n
array-least eight n = omega arith
array-least ten n = omega arith

pub beside-few : (c : Coding) → beside c ≤ 4
beside-few eight = omega arith
beside-few ten = omega arith

-- numbers of bytes, from a place on
pub two-drop : (at i : ℕ) (s : List ℕ) → two_in (drop at s) i ≡ two_in s (at + i)
two-drop at i s =
    let e : at + (i + 1) ≡ at + i + 1 = omega arith in
    rw (get_or-drop at s i 0, get_or-drop at s (i + 1) 0, e)

three-drop : (at i : ℕ) (s : List ℕ) → three_in (drop at s) i ≡ three_in s (at + i)
three-drop at i s =
    let e : at + (i + 1) ≡ at + i + 1 = omega arith in
    let f : two_in (drop at s) (i + 1) ≡ two_in s (at + i + 1) = two-drop at (i + 1) s ∙ ap (two_in s) e in
    let g = get_or-drop at s i 0 in
    omega arith

pub four-drop : (at i : ℕ) (s : List ℕ) → four_in (drop at s) i ≡ four_in s (at + i)
four-drop at i s =
    let e : at + (i + 1) ≡ at + i + 1 = omega arith in
    let f : three_in (drop at s) (i + 1) ≡ three_in s (at + i + 1) = three-drop at (i + 1) s ∙ ap (three_in s) e in
    let g = get_or-drop at s i 0 in
    omega arith

add_nothing : (sys : ℕ) (o : Outcome) → add_to 0 4 o ≡ read_of sys o
add_nothing sys (refused n i) = refl
add_nothing sys (listed ps) =
    let l = sheet-length sys ps in
    let a : 0 + length ps ≡ length ps = omega arith in
    let b : 4 + (2 * length ps + string_byte_count ps) ≡ length (sheet_of sys ps) = omega arith in
    λ i. counted (a i) (b i)

pub at_first : (c : Coding) (sys : ℕ) (fi : Bool) (n : ℕ) (s : List ℕ) → whole_from c sys fi n 0 0 4 s ≡ read_of sys (structures c sys fi n 22 s)
at_first c sys fi n s = rw (sub-zero n) (add_nothing sys (structures c sys fi n 22 s))

add-also : (k numbers : ℕ) (p : Packet) (o : Outcome) → add_to k numbers (also p o) ≡ add_to (k + 1) (numbers + (2 + bytes_of p)) o
add-also k numbers p (refused n i) = refl
add-also k numbers p (listed ps) =
    let a : k + suc (length ps) ≡ k + 1 + length ps = omega arith in
    let b : numbers + (2 * suc (length ps) + (bytes_of p + string_byte_count ps))
    ≡ numbers + (2 + bytes_of p) + (2 * length ps + string_byte_count ps) =
    omega arith in
    λ i. counted (a i) (b i)

-- after the last structure: bytes are left over, or none
module _ (c : Coding) (sys : ℕ) (fi : Bool) (n k at numbers : ℕ) (s : List ℕ) (all : k ≡ n) where
  none_left : n - k ≡ 0
  none_left = omega arith

  pub at-surplus : at < length s → read_of 0 (refused 19 (22 + at)) ≡ whole_from c sys fi n k at numbers s
  at-surplus l = rw (none_left, drop-cons s at 0 l)

  pub at-end : length s ≤ at → counted n numbers ≡ whole_from c sys fi n k at numbers s
  at-end l = rw (none_left, drop_of_length-le s l, all) (simp add-zero)

-- a structure that passed its tests is there
module _ (c : Coding) (at : ℕ) (s : List ℕ) (w : Whole c (take (length s - at) (drop at s))) where
  pub whole : Whole c (drop at s)
  whole = subst (Whole c) (rest_part at s) w

  pub all_there : at ≤ length s → at + (14 + four_in s (at + 6)) ≤ length s
  all_there l =
      let f = four-drop at 6 s in
      let m = length-drop at s in
      let h = whole.there in
      omega arith

  pub samples-there : array_for c (two_in s (at + 4)) ≤ four_in s (at + 6)
  samples-there =
      let e : array_for c (two_in (drop at s) 4) ≡ array_for c (two_in s (at + 4)) = ap (array_for c) (two-drop at 4 s) in
      let f = four-drop at 6 s in
      let h = whole.room in
      omega arith

-- the words of a packet: ADF and CS beside its samples of 8 bits
pub eight-long : (sys : ℕ) (fi : Bool) (s : List ℕ) → Whole eight s → bytes_of (packet_in eight sys fi s) ≡ two_in s 4 + 4
eight-long sys fi s w =
    let l = length-drop 17 s in
    let h = w.there in
    let r = w.room in
    let d = w.dc in
    let u = length-take-le (get_or s 16 0) (drop 17 s) (omega arith) in
    omega arith

-- the structure at a place, by its tests
module _ (c : Coding) (sys : ℕ) (fi : Bool) (n k at numbers : ℕ) (s : List ℕ) (h : k < n) where
  abbrev t : List ℕ
  t = drop at s

  abbrev tests : Outcome → Outcome
  tests o = front_then c sys (22 + at) (take (length s - at) (drop at s)) (array_then c (22 + at) (take (length s - at) (drop at s)) o)

  abbrev later : Outcome
  later = also (packet_in c sys fi t) (structures c sys fi (n - (k + 1)) (22 + at + size_in t) (drop (size_in t) t))

  turn : (o : Outcome) → tests later ≡ o → structures c sys fi (n - k) (22 + at) t ≡ o
  turn o q =
      let e : n - k ≡ suc (n - (k + 1)) = omega arith in
      rw e (rw (rest_part at s) at q)

  pub at-fault : (place : ℕ) → ((o : Outcome) → tests o ≡ refused 19 place)
      → read_of 0 (refused 19 place) ≡ whole_from c sys fi n k at numbers s
  at-fault place q = sym (ap (add_to k numbers) (turn (refused 19 place) (q later)))

  -- the sheet numbers of its packet: samples, the words beside them, and a location
  pub at_next : ((o : Outcome) → tests o ≡ o) → (beside : ℕ) → bytes_of (packet_in c sys fi t) ≡ two_in t 4 + beside
      → (two four : ℕ) → two ≡ two_in s (at + 4) → four ≡ four_in s (at + 6)
      → whole_from c sys fi n (k + 1) (at + (14 + four)) (numbers + (two + (beside + 2))) s ≡ whole_from c sys fi n k at numbers s
  at_next q beside long two four d e =
      let x = two-drop at 4 s in
      let a : numbers + (2 + bytes_of (packet_in c sys fi t)) ≡ numbers + (two + (beside + 2)) = omega arith in
      let b : size_in t ≡ 14 + four = ap (λ (m : ℕ). 14 + m) (four-drop at 6 s ∙ sym e) in
      let p : 22 + at + size_in t ≡ 22 + (at + (14 + four)) = omega arith in
      let r : drop (size_in t) t ≡ drop (at + (14 + four)) s = drop-drop (size_in t) at s ∙ ap (λ (m : ℕ). drop (at + m) s) b in
      sym
      (ap (add_to k numbers) (turn later (q later))
      ∙ add-also k numbers (packet_in c sys fi t) (structures c sys fi (n - (k + 1)) (22 + at + size_in t) (drop (size_in t) t))
      ∙ (λ i. add_to (k + 1) (a i) (structures c sys fi (n - (k + 1)) (p i) (r i))))

-- ---- the element

-- by the tests of its head
module _ (c : Coding) (sys : ℕ) (fi : Bool) (e : List ℕ) where
  abbrev behind : Outcome
  behind = structures c sys fi (two_in e 20) 22 (drop 22 e)

  pub head-wrong : (place : ℕ) → ((o : Outcome) → head_then e o ≡ refused 19 place)
      → read_of 0 (refused 19 place) ≡ read_of sys (judged_as c sys fi e)
  unfolding judged_as
  head-wrong place tested = ap (read_of sys) (sym (tested behind))

  pub from-structures : ((o : Outcome) → head_then e o ≡ o) → (n : ℕ) → n ≡ two_in e 20 → (r : ElementRead)
      → r ≡ read_of sys (structures c sys fi n 22 (take (length e - 22) (drop 22 e))) → r ≡ read_of sys (judged_as c sys fi e)
  unfolding judged_as
  from-structures tested n d r g =
      g
      ∙ (λ i. read_of sys (structures c sys fi (d i) 22 (rest_part 22 e i)))
      ∙ ap (read_of sys) (sym (tested behind))
