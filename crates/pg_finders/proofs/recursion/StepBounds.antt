-- What a step of the solver owes besides the levels: the steps that are left, for a whole of d priorities and n vertices.
use Rattle.pg_finders.proofs.Common.{◌≡◌, ℕ, ◌+◌, ◌-◌, ◌<◌, ◌≤◌, List, [], ◌∷◌, ◌++◌, length, refl, ap, arith, Frame, steps, steps_after}
use Rattle.pg_finders.proofs.Common.{steps_left, length-append}
use Rattle.pg_finders.proofs.Steps.{steps_grow, steps_begin, steps_finish}

left_push : (d n : ℕ) (frames : List Frame) (f : Frame)
    → steps_left d n (frames ++ f ∷ []) ≡ steps_left d n frames + steps_after (d - length frames) (n - (f.even + f.odd + f.set_aside_from))
left_push d n [] f =
    let m = n - (f.even + f.odd + f.set_aside_from) in
    let e : steps_after (d - length {A = Frame} []) m ≡ steps_after d m = ap (λ x. steps_after x m) (omega arith) in
    omega (arith, e)
left_push d n (x ∷ xs) f =
    let h = left_push (d - 1) n xs f in
    let e : d - 1 - length xs ≡ d - length (x ∷ xs) = omega arith in
    rw (← e) (omega (arith, h))

-- the steps fall where a subgame is begun
pub work_begin : (d n m k : ℕ) (frames : List Frame) (f : Frame) → length frames < d → f.even + f.odd + f.set_aside_from ≡ m → m < k → k ≤ n
    → steps (d - length (frames ++ f ∷ [])) (n - k) + steps_left d n (frames ++ f ∷ []) < steps (d - length frames) (n - m) + steps_left d n frames
work_begin d n m k frames f some e l h =
    let deeper = length-append frames (f ∷ []) in
    let b = steps_begin (d - length (frames ++ f ∷ [])) (d - length frames) (n - m) (n - k) (omega (arith, some, deeper)) (omega (arith, l, h)) in
    let same : steps_after (d - length frames) (n - (f.even + f.odd + f.set_aside_from)) ≡ steps_after (d - length frames) (n - m) = rw e refl in
    omega (arith, left_push d n frames f, b, same)

-- and where the last one is finished
pub work_finish : (d n m k : ℕ) (frames : List Frame) (f : Frame) → f.even + f.odd + f.set_aside_from < k → k ≤ n
    → steps (d - length frames) (n - k) + steps_left d n frames < steps (d - length (frames ++ f ∷ [])) (n - m) + steps_left d n (frames ++ f ∷ [])
work_finish d n m k frames f l h =
    let b = steps_finish (d - length frames) (n - (f.even + f.odd + f.set_aside_from)) (n - k) (omega (arith, l, h)) in
    omega (arith, left_push d n frames f, b)

-- at the start no level waits
pub work_start : (d n k m : ℕ) (frames : List Frame) → n ≤ m → frames ≡ [] → steps (d - length frames) (n - k) + steps_left d n frames ≤ steps d m
work_start d n k m frames l e =
    let h = steps_grow (d - length frames) d (n - k) m (omega arith) (omega (arith, l)) in
    let none : steps_left d n frames ≡ 0 = rw e refl in
    omega (arith, h, none)
