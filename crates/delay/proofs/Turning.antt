-- Looking into cells that are written round and round, and entering an element there.
use Rattle.std.proofs.Common.{◌≡◌, ℕ, zero, suc, ◌+◌, ◌-◌, ◌<◌, ◌≤◌, List, [], ◌∷◌, ◌++◌, reverse, length, get_or, take, drop, set, Some, None, Option, sym, refl, ap, ◌∙◌, subst, ⊎_elim, arith, length-append, length-drop, length-take}
use lib.ListN.{length-reverse}
use Rattle.std.specs.List.{range_with_len}
use Rattle.std.proofs.lemmas.List.{length-take-le, append-nil, reverse-append, get_or_append_left, get_or-append_right, get_or-reverse, get_or-take, get_or-drop, take_all, drop_all, take_more_set, drop_more, drop-set-lt, append_assoc, take_at}
use Rattle.std.proofs.lemmas.Option.{slice_get-get_or, slice_get_past}
use Rattle.std.proofs.lemmas.List.FromFn.{length-range_with_len, get_or-range_with_len}
use Rattle.std.proofs.lemmas.Bool.{cases_lt}
use Rattle.delay.specs.Delay.{look, entered}
use Rattle.delay.specs.Rotated.{rotated}

-- the cells are all there, in another order
pub length-rotated : {X : Type 0} (k : ℕ) (xs : List X) → length (rotated k xs) ≡ length xs
length-rotated k xs =
    length-append (reverse (take k xs)) (reverse (drop k xs)) ∙ simp (length-reverse, length-take, length-drop) (omega arith)

-- written to the end, the last cell is the newest, as it is before any is written
pub rotated_all : {X : Type 0} (k : ℕ) (xs : List X) → length xs ≤ k → rotated k xs ≡ reverse xs
rotated_all k xs h = simp (take_all k xs h, drop_all k xs h, append-nil)

-- an element is entered in the oldest's place
pub entered-rotated : {X : Type 0} (k : ℕ) (xs : List X) (x : X) → k < length xs → entered x (rotated k xs) ≡ rotated (k + 1) (set xs k x)
entered-rotated k xs x h =
    let recent = reverse (take k xs) in
    let older = reverse (drop (k + 1) xs) in
    let y = get_or xs k x in
    let oldest : rotated k xs ≡ (recent ++ older) ++ y ∷ [] = ap (λ l. recent ++ reverse l) (drop_more xs k x h) ∙ ap (λ l. recent ++ l) (reverse-append (y ∷ []) (drop (k + 1) xs)) ∙ sym (append_assoc recent older (y ∷ [])) in
    let count : length (x ∷ (recent ++ older)) ≡ length (rotated k xs) = sym (ap length oldest ∙ length-append (recent ++ older) (y ∷ []) ∙ omega arith) in
    let left : entered x (rotated k xs) ≡ x ∷ (recent ++ older) = ap (λ l. take (length (rotated k xs)) (x ∷ l)) oldest ∙ take_at (x ∷ (recent ++ older)) (y ∷ []) (length (rotated k xs)) count in
    let written : reverse (take (k + 1) (set xs k x)) ≡ x ∷ recent = ap reverse (take_more_set xs k x h) ∙ reverse-append (take k xs) (x ∷ []) in
    let right : rotated (k + 1) (set xs k x) ≡ x ∷ (recent ++ older) = ap (λ l. l ++ reverse (drop (k + 1) (set xs k x))) written ∙ ap (λ l. x ∷ (recent ++ reverse l)) (drop-set-lt (k + 1) xs k x (omega arith)) in
    left ∙ sym right

-- the element n back: none beyond the cells
pub look_past : {X : Type 0} (xs : List X) (n : ℕ) → length xs < n → look xs n ≡ None
look_past xs zero h = absurd (omega arith)
look_past xs (suc n) h = slice_get_past xs n (omega arith)

look_in : {X : Type 0} (xs : List X) (n : ℕ) (d : X) → 0 < n → n ≤ length xs → look xs n ≡ Some (get_or xs (n - 1) d)
look_in xs zero d pos h = absurd (omega arith)
look_in xs (suc n) d pos h = slice_get-get_or xs n d (omega arith) ∙ ap (λ i. Some (get_or xs i d)) (omega arith)

-- before `next` it is counted down from `next`, and else down from the end
pub look_near : {X : Type 0} (k : ℕ) (xs : List X) (n : ℕ) (d : X) → 0 < n → n ≤ k → k ≤ length xs → look (rotated k xs) n ≡ Some (get_or xs (k - n) d)
look_near k xs n d pos near within =
    let recent : length (take k xs) ≡ k = length-take-le k xs within in
    let count : length (reverse (take k xs)) ≡ k = length-reverse (take k xs) ∙ recent in
    let place : length (take k xs) - 1 - (n - 1) ≡ k - n = omega arith in
    look_in (rotated k xs) n d pos (omega (arith, length-rotated k xs))
    ∙ ap Some (get_or_append_left (reverse (take k xs)) (reverse (drop k xs)) d (n - 1) (omega arith)
    ∙ get_or-reverse (take k xs) (n - 1) d (omega arith)
    ∙ ap (λ i. get_or (take k xs) i d) place
    ∙ get_or-take k xs (k - n) d (omega arith))

pub look_far : {X : Type 0} (k : ℕ) (xs : List X) (n : ℕ) (d : X) → k < n → n ≤ length xs → look (rotated k xs) n ≡ Some (get_or xs (length xs - (n - k)) d)
look_far k xs n d far within =
    let recent : length (reverse (take k xs)) ≡ k = length-reverse (take k xs) ∙ length-take-le k xs (omega arith) in
    let older : length (drop k xs) ≡ length xs - k = length-drop k xs in
    let place : k + (length (drop k xs) - 1 - (n - 1 - k)) ≡ length xs - (n - k) = omega arith in
    look_in (rotated k xs) n d (omega arith) (omega (arith, length-rotated k xs))
    ∙ ap Some (get_or-append_right (reverse (take k xs)) (reverse (drop k xs)) k (n - 1) d recent (omega arith)
    ∙ get_or-reverse (drop k xs) (n - 1 - k) d (omega arith)
    ∙ get_or-drop k xs (length (drop k xs) - 1 - (n - 1 - k)) d
    ∙ ap (λ i. get_or xs i d) place)

-- the places themselves, in place of the elements
pub place_past : (k len n : ℕ) → len < n → look (rotated k (range_with_len 0 len)) n ≡ None
place_past k len n past =
    look_past (rotated k (range_with_len 0 len)) n (omega (arith, length-rotated k (range_with_len 0 len), length-range_with_len 0 len))

pub place_near : (k len n : ℕ) → 0 < n → n ≤ k → k ≤ len → look (rotated k (range_with_len 0 len)) n ≡ Some (k - n)
place_near k len n pos near within =
    let count : length (range_with_len 0 len) ≡ len = length-range_with_len 0 len in
    look_near k (range_with_len 0 len) n 0 pos near (omega arith) ∙ ap Some (get_or-range_with_len 0 len (k - n) 0 (omega arith) ∙ omega arith)

pub place_far : (k len n : ℕ) → k < n → n ≤ len → look (rotated k (range_with_len 0 len)) n ≡ Some (len - (n - k))
place_far k len n far within =
    let count : length (range_with_len 0 len) ≡ len = length-range_with_len 0 len in
    look_far k (range_with_len 0 len) n 0 far (omega arith)
    ∙ ap Some (get_or-range_with_len 0 len (length (range_with_len 0 len) - (n - k)) 0 (omega arith) ∙ omega arith)

-- What a place means for the element n back: it lies there, and where there is no place there is no element.
abbrev pub Lies : {X : Type 0} → ℕ → List X → ℕ → Option ℕ → Type 0
Lies {X} k xs n (Some p) = (p < length xs) × ((d : X) → look (rotated k xs) n ≡ Some (get_or xs p d))
Lies {X} k xs n None = look (rotated k xs) n ≡ None

-- looking into the places gives the place of the element
place_of : {X : Type 0} (k : ℕ) (xs : List X) (n : ℕ) → k ≤ length xs → Lies k xs n (look (rotated k (range_with_len 0 (length xs))) n)
place_of k xs zero within = refl
place_of k xs (suc m) within =
    let n = suc m in
    let Goal : Option ℕ → Type 0 = Lies k xs n in
    ⊎_elim
    (λ past.
    subst Goal (sym (place_past k (length xs) n past)) (look_past (rotated k xs) n (omega (arith, length-rotated k xs))))
    (λ inside.
    ⊎_elim
    (λ far.
    subst Goal (sym (place_far k (length xs) n far inside)) (omega arith, λ d. look_far k xs n d far inside))
    (λ near.
    subst Goal (sym (place_near k (length xs) n (omega arith) near within)) (omega arith, λ d. look_near k xs n d (omega arith) near within))
    (cases_lt k n))
    (cases_lt (length xs) n)

pub lies : {X : Type 0} (k : ℕ) (xs : List X) (len n : ℕ) (o : Option ℕ) → length xs ≡ len → k ≤ len → o ≡ look (rotated k (range_with_len 0 len)) n → Lies k xs n o
lies k xs len n o count within found =
    let among : look (rotated k (range_with_len 0 (length xs))) n ≡ o = ap (λ l. look (rotated k (range_with_len 0 l)) n) count ∙ sym found in
    subst (Lies k xs n) among (place_of k xs n (omega arith))

-- What the oldest's place means for an element that is entered: it is written there, and the next one after it.
abbrev pub Enters : {X : Type 0} → ℕ → List X → X → Option ℕ → Type 0
Enters k xs x (Some p) = (p < length xs) × (rotated (p + 1) (set xs p x) ≡ entered x (rotated k xs))
Enters k xs x None = rotated k xs ≡ entered x (rotated k xs)

-- the oldest is as many back as there are cells
oldest_of : {X : Type 0} (k : ℕ) (xs : List X) (x : X) → k ≤ length xs → Enters k xs x (look (rotated k (range_with_len 0 (length xs))) (length xs))
oldest_of {X} k [] x within =
    let Goal : ℕ → Type 0 = λ n. rotated n [] ≡ entered x (rotated n []) in
    let none : k ≡ 0 = omega arith in
    subst Goal (sym none) refl
oldest_of {X} k (y ∷ ys) x within =
    let xs = y ∷ ys in
    let Goal : Option ℕ → Type 0 = Enters k xs x in
    ⊎_elim
    (λ inside.
    let place : length xs - (length xs - k) ≡ k = omega arith in
    subst Goal (sym (place_far k (length xs) (length xs) inside (omega arith) ∙ ap Some place)) (inside, sym (entered-rotated k xs x inside)))
    (λ over.
    let place : k - length xs ≡ 0 = omega arith in
    let whole : rotated 0 xs ≡ rotated k xs = sym (rotated_all k xs over) in
    subst Goal (sym (place_near k (length xs) (length xs) (omega arith) over within ∙ ap Some place))
    (omega arith, sym (entered-rotated 0 xs x (omega arith)) ∙ ap (entered x) whole))
    (cases_lt k (length xs))

pub enters : {X : Type 0} (k : ℕ) (xs : List X) (x : X) (len : ℕ) (o : Option ℕ) → length xs ≡ len → k ≤ len → o ≡ look (rotated k (range_with_len 0 len)) len → Enters k xs x o
enters k xs x len o count within found =
    let among : look (rotated k (range_with_len 0 (length xs))) (length xs) ≡ o = ap (λ l. look (rotated k (range_with_len 0 l)) l) count ∙ sym found in
    subst (Enters k xs x) among (oldest_of k xs x (omega arith))
