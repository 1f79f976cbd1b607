-- The functions of the built-in operations do what the operations mean. Assumes nothing.
use Rattle.std.proofs.Common.{◌≡◌, ℕ, zero, suc, ◌+◌, ◌<◌, ◌≤◌, Bool, true, false, eqb, ◌≢◌, List, [], ◌∷◌, ◌++◌, map, length, ℤ, pos, is_some, Some, None, Ok, Err, codes, Option, sym, refl, ap, ◌∙◌, arith}
use Rattle.std.specs.Fmt.{signed_decimal}
use Rattle.std.specs.Option.{option_map}
use Rattle.std.specs.List.{slice_get, AllByRecursion}
use Rattle.std.proofs.lemmas.Bool.{false≢true}
use Rattle.store.specs.Val.{Val, equal_val}
use Rattle.store.specs.Tables.{Table, look}
use Rattle.machine.specs.declared.arith.Op.{Op}
use Rattle.machine.specs.declared.builtin.Builtin.{Builtin}
use Rattle.machine.specs.declared.builtin.Builtin.TheVariants as own
use Rattle.machine.specs.declared.ending.Ending.{Ending}
use Rattle.machine.specs.declared.ending.Ending.TheVariants.{WrongArgumentCount, WrongArgumentKind, NoTableSpace}
use Rattle.machine.specs.declared.instruction.Kind.{Kind}
use Rattle.machine.specs.Limits.{Limits, registers_per_frame}
use Rattle.machine.specs.Outcome.{Outcome}
use Rattle.machine.specs.Arith as arithmetic
use Rattle.machine.specs.Effects.{Effects, charge, print}
use Rattle.machine.specs.Builtin.{builtin_number, builtin_of, shown, apply}
use Rattle.machine.specs.Instr.{Instr, Program}
use Rattle.machine.specs.Operands.{truth, is_of}
use Rattle.machine.specs.State as machine
use Rattle.machine.specs.State.{Registers, Frame, frame, at, write, passed}
use Rattle.machine.proofs.Judge.{Has, none, more, Fetch}
use Rattle.machine.proofs.Registers.{passed_reads}
use Rattle.machine.proofs.Exec.{do-const, do-mov, do-arith, end-arith, do-eq, do-is_kind, do-builtin, end-builtin, do-rd_glob, do-rd_tab, do-wr_tab, end-wr_tab, do-has_tab, do-ret}
use Rattle.rube.specs.declared.builtin.Operation.{Operation}
use Rattle.rube.specs.declared.builtin.Operation.TheVariants.{
  Equal,
  ClassName,
  PrintClassName,
  Itself,
  Decimal,
  PrintValue,
  NilText,
  PrintNil,
  Concat,
  Length,
  Arith,
  Find,
  Insert,
  Has as HasKey,
}
use Rattle.rube.specs.Classes.{Callee, Classes, lookup, class_names, class_count}
use Rattle.rube.specs.Heap.{Heap, Setting, nil, class_of, fields_of, fits, new_pairs, put_at}
use Rattle.rube.specs.Heap as heap
use Rattle.rube.specs.Evaluation as evaluation
use Rattle.rube.specs.Evaluation.{State, Res, val, end, ◌>>=◌, with_heap, with_effects, outcome, effect}
use Rattle.rube.specs.Methods.{keyed, perform}
use Rattle.rube.specs.Meaning.{arg_at, Eval}
use Rattle.compiler.specs.Pieces.{number, nil_into, require, truth_into, count_test}
use Rattle.compiler.specs.Layout.{class_key, name_key, contents_key, place_in, operation_function}
use Rattle.compiler.specs.Builtins.{ask, class_name_into, print_five, contents_into, operation_code, operation_parameters, operation_function_code}
use Rattle.correctness.specs.Accepted.{Accepted, Few}
use Rattle.correctness.proofs.Relation.{shift, world, Globals, Fine, integer, text, object, Sound}
use Rattle.correctness.proofs.Segments.{Seg, split, head, tail, last}
use Rattle.correctness.proofs.Following.{Sim, legal, count-then, step_then, slack, done, ending, weaken}
use Rattle.correctness.proofs.Registers.{has-written, has_other}
use Rattle.correctness.proofs.Returning.{Except, has-except, grows_same, Back}
use Rattle.correctness.proofs.Classed.{except-two}
use Rattle.correctness.proofs.Values.{equal-shift, some_mapped}
use Rattle.correctness.proofs.Tabled.{object-table-here, cell-here, class-here, read-class, read_name, read-object-class, read-contents, read-key, write-key}
use Rattle.correctness.proofs.Heaps.{key-fine, sound-key, grows-put}
use Rattle.correctness.proofs.Space.{takes_key, fits-after-put}
use Rattle.correctness.proofs.Forms.{nil-fine}
use Rattle.correctness.proofs.Fields.{truth-fine}
use Rattle.correctness.proofs.Lookup.{found-built_in, found-function}
use Rattle.correctness.proofs.Calls.{Callable}
use Rattle.correctness.proofs.Receivers.{
  ObjectAt,
  MapAt,
  Suits,
  suited-suits,
  equal,
  class_name,
  print_class_name,
  itself,
  decimal,
  print_integer,
  print_string,
  nil_text,
  print_nil,
  concat,
  its_length,
  arith as arithmetical,
  find,
  insert,
  has,
}
use Rattle.correctness.proofs.Endings.{charge-legal, print-legal, arith-legal}
use Rattle.correctness.proofs.Tests.{require-then, count-test, truth-then}

two-more : (i : ℕ) → 2 + i ≡ suc (suc i)
two-more i = omega arith

-- the machine's own functions are found by their numbers
own-found : (b : Builtin) → builtin_of (builtin_number b) ≡ Some b
own-found own.PrintValue = refl
own-found own.ToS = refl
own-found own.Concat = refl
own-found own.Length = refl

module _ {A : Type 0} (P : Classes A) (L : Limits) (C : Program) (G : Table) (globals : Globals P G) where
  abbrev setting : Setting A
  setting = record { classes = P; limits = L }

  -- what a callee finds: the receiver in register 1, and the arguments behind it
  pub record Received (H : Heap) (R : Registers) (r : Val) (vs : List Val) : Type 0 where
    pub receiver-in : Has R 1 (shift P r)
    pub argument-in : (i : ℕ) → i < length vs → Has R (2 + i) (shift P (arg_at vs i))
    pub argument-fine : (i : ℕ) → i < length vs → Fine P H (arg_at vs i)

  -- a caller waits at its call, with the registers Rc; the state is s
  module _ (k : ℕ) (Rc : Registers) (S : List Frame) {f pc a first final : ℕ} (call : Fetch C f pc (Instr.call a first final)) (below : first < registers_per_frame) (s : State) (heap-sound : Sound P s.heap) (space : fits (record { classes = P; limits = L }) s.heap 0 0 ≡ true) where
    abbrev From : ℕ → ℕ → Registers → State → machine.State
    From g p R s' = at g p R (frame f pc Rc ∷ S) (world P G s')

    abbrev Answers : machine.State → ℕ → Res Val → Type 0
    Answers m c x = Sim P C L G k m c s.counted f (suc pc) S (Back P L Rc first s) x

    -- an answer is given to the caller
    ret-then : {c g p a : ℕ} {R : Registers} (o : Effects) (v : Val) → Fetch C g p (Instr.ret a) → Has R a (shift P v) → Fine P s.heap v → Answers (From g p R (with_effects o s)) (suc c) (val v (with_effects o s))
    ret-then o v h i w =
        step_then (do-ret h i refl call below)
        (done refl (record { is = refl; fine = w; heap-fine = heap-sound; grows = grows_same P L; space = space; locals = refl }))

    itself-good : {g p q : ℕ} {R : Registers} (r v w : Val) → Seg C g p (operation_code Itself) q → Has R 1 (shift P r) → Fine P s.heap r → Answers (From g p R s) 40 (perform setting Itself r v w s)
    unfolding operation_code perform
    itself-good r v w e h i = ret-then s.effects r (head e) h i

    equal-good : {g p q : ℕ} {R : Registers} (r v w : Val) → Seg C g p (operation_code Equal) q → Has R 1 (shift P r) → Has R 2 (shift P v) → Answers (From g p R s) 40 (perform setting Equal r v w s)
    unfolding operation_code perform
    equal-good {R = R} r v w e h i =
        let t = equal_val r v in
        let y = split _ (Instr.ret 4 ∷ []) (tail e) in
        step_then (do-eq (head e) (omega arith) h i)
        (rw (equal-shift P r v)
        (truth-then P L C G s t globals (omega arith) y.left (has-written R 4 (truth t))
        (ret-then s.effects (heap.truth t) (head y.right) (has-written (write R 4 (truth t)) 4 (shift P (heap.truth t))) (truth-fine P L C G globals t (nil-fine P L C G globals heap-sound.fine)))))

    nil_text-good : {g p q : ℕ} {R : Registers} (r v w : Val) → Seg C g p (operation_code NilText) q → Answers (From g p R s) 40 (perform setting NilText r v w s)
    unfolding operation_code perform
    nil_text-good {R = R} r v w e =
        step_then (do-const (head e) (omega arith))
        (ret-then s.effects (Val.string (codes "nil")) (head (tail e)) (has-written R 5 (Val.string (codes "nil"))) text)

    -- a function of the machine is asked, on one register
    ask-then : {c g p q r : ℕ} {R : Registers} {x : Res Val} (b : Builtin) (v u : Val) (o : Effects) → r ≢ 4 → Seg C g p (ask b r) q → Has R r v → apply b (v ∷ []) s.effects ≡ Ok (u, o)
        → Answers (From g q (write (write R 4 (Val.identifier (builtin_number b))) r u) (with_effects o s)) c x → Answers (From g p R s) (suc (suc c)) x
    ask-then {r = r} {R = R} b v u o n e h a x =
        let i = Val.identifier (builtin_number b) in
        step_then (do-const (head e) (omega arith))
        (step_then (do-builtin (head (tail e)) (has-written R 4 i) (more (has_other R 4 r i (λ z. n (sym z)) h) none) (omega arith) (own-found b) a)
        (rw (last (tail e)) x))

    ask-ends : {c g p q r : ℕ} {R : Registers} (b : Builtin) (v : Val) (z : Ending) → legal z ≡ true → r ≢ 4 → Seg C g p (ask b r) q → Has R r v → apply b (v ∷ []) s.effects ≡ Err z → Answers (From g p R s) (suc (suc c)) (end z s)
    ask-ends {r = r} {R = R} b v z l n e h a =
        let i = Val.identifier (builtin_number b) in
        step_then (do-const (head e) (omega arith))
        (ending l (end-builtin (head (tail e)) (has-written R 4 i) (more (has_other R 4 r i (λ y. n (sym y)) h) none) (omega arith) (own-found b) a))

    -- what register 5 holds is printed
    print-then : {g p q : ℕ} {R : Registers} (t : List ℕ) (v : Val) (y : Outcome Effects) → print t s.effects ≡ y → shown v ≡ Ok t → Seg C g p print_five q → Has R 5 v → Answers (From g p R s) 30 (effect y s >>= (λ _ s'. val nil s'))
    unfolding apply
    print-then {R = R} t v (Ok o) d a e h =
        let z = split (ask own.PrintValue 5) _ e in
        let R₂ = write (write R 4 (Val.identifier (builtin_number own.PrintValue))) 5 (Val.int (pos 0)) in
        ask-then own.PrintValue v (Val.int (pos 0)) o (λ n. omega arith) z.left h (rw (a, d))
        (step_then (do-rd_glob (head z.right) (omega arith) globals.nils)
        (ret-then o nil (head (tail z.right)) (has-written R₂ 5 (shift P nil)) (nil-fine P L C G globals heap-sound.fine)))
    print-then t v (Err x) d a e h = ask-ends own.PrintValue v x (print-legal t s.effects x d) (λ n. omega arith) (split (ask own.PrintValue 5) _ e).left h (rw (a, d))

    print_nil-good : {g p q : ℕ} {R : Registers} (r v w : Val) → Seg C g p (operation_code PrintNil) q → Answers (From g p R s) 40 (perform setting PrintNil r v w s)
    unfolding operation_code perform
    print_nil-good {R = R} r v w e =
        let x = Val.string (codes "nil") in
        step_then (do-const (head e) (omega arith))
        (slack 39 (omega arith) (print-then (codes "nil") x _ refl refl (tail e) (has-written R 5 x)))

    print_value-good : {g p q : ℕ} {R : Registers} (t : List ℕ) (r v w : Val) → shown r ≡ Ok t → shown (shift P r) ≡ Ok t → Seg C g p (operation_code PrintValue) q → Has R 1 (shift P r) → Answers (From g p R s) 40 (perform setting PrintValue r v w s)
    unfolding operation_code perform
    print_value-good {R = R} t r v w d d' e h =
        rw d
        (step_then (do-mov (head e) (omega arith) h)
        (slack 39 (omega arith) (print-then t (shift P r) _ refl d' (tail e) (has-written R 5 (shift P r)))))

    -- a string is made and answered
    made_then : {g p q : ℕ} {R : Registers} (n : ℤ) (y : Outcome Effects) → charge (length (signed_decimal n)) s.effects ≡ y → Seg C g p (ask own.ToS 5 ++ (Instr.ret 5 ∷ [])) q → Has R 5 (Val.int n) → Answers (From g p R s) 30 (effect y s >>= (λ _ s'. val (Val.string (signed_decimal n)) s'))
    unfolding apply
    made_then {R = R} n (Ok o) d e h =
        let z = split (ask own.ToS 5) _ e in
        let i = Val.identifier (builtin_number own.ToS) in
        let x = Val.string (signed_decimal n) in
        ask-then own.ToS (Val.int n) x o (λ m. omega arith) z.left h (rw d)
        (ret-then o x (head z.right) (has-written (write R 4 i) 5 x) text)
    made_then n (Err x) d e h = ask-ends own.ToS (Val.int n) x (charge-legal (length (signed_decimal n)) s.effects x d) (λ m. omega arith) (split (ask own.ToS 5) _ e).left h (rw d)

    decimal-good : {g p q : ℕ} {R : Registers} (n : ℤ) (v w : Val) → Seg C g p (operation_code Decimal) q → Has R 1 (Val.int n) → Answers (From g p R s) 40 (perform setting Decimal (Val.int n) v w s)
    unfolding operation_code perform
    decimal-good {R = R} n v w e h =
        step_then (do-mov (head e) (omega arith) h)
        (slack 39 (omega arith) (made_then n _ refl (tail e) (has-written R 5 (Val.int n))))

    length-good : {g p q : ℕ} {R : Registers} (t : List ℕ) (v w : Val) → Seg C g p (operation_code Length) q → Has R 1 (Val.string t) → Answers (From g p R s) 40 (perform setting Length (Val.string t) v w s)
    unfolding operation_code perform apply
    length-good {R = R} t v w e h =
        let z = split (ask own.Length 5) _ (tail e) in
        let i = Val.identifier (builtin_number own.Length) in
        let R₁ = write R 5 (Val.string t) in
        step_then (do-mov (head e) (omega arith) h)
        (ask-then own.Length (Val.string t) (number (length t)) s.effects (λ n. omega arith) z.left (has-written R 5 (Val.string t)) refl
        (ret-then s.effects (number (length t)) (head z.right) (has-written (write R₁ 4 i) 5 (number (length t))) integer))

    -- an argument of another kind
    wrong-kind : {g p q : ℕ} {R : Registers} {κ : Kind} {v : Val} {code : List Instr} → Seg C g p (Instr.is_kind κ 4 2 ∷ (require 4 6 ++ code)) q → Has R 2 v → is_of κ v ≡ false → Answers (From g p R s) 40 (end WrongArgumentKind s)
    wrong-kind {R = R} {code = code} e i z =
        step_then (do-is_kind (head e) (omega arith) i)
        (rw z
        (require-then P L C G {x = val nil s} s false refl (omega arith) (split (require 4 6) code (tail e)).left (has-written R 4 (truth false)) (λ b. absurd (false≢true b))))

    -- the sum, difference, product or quotient of two integers
    computed-then : {g p q : ℕ} {R : Registers} (o : Op) (m n : ℤ) (y : Outcome ℤ) → arithmetic.arith o m n ≡ y → Seg C g p (Instr.arith o 4 1 2 ∷ Instr.ret 4 ∷ []) q → Has R 1 (Val.int m) → Has R 2 (Val.int n) → Answers (From g p R s) 30 (outcome y s >>= (λ z. val (Val.int z)))
    computed-then {R = R} o m n (Ok z) d e h i =
        step_then (do-arith (head e) (omega arith) h i d) (ret-then s.effects (Val.int z) (head (tail e)) (has-written R 4 (Val.int z)) integer)
    computed-then o m n (Err x) d e h i = ending (arith-legal o m n x d) (end-arith (head e) (omega arith) h i d)

    arith-good : {g p q : ℕ} {R : Registers} (o : Op) (m : ℤ) (v w : Val) → Seg C g p (operation_code (Arith o)) q → Has R 1 (Val.int m) → Has R 2 (shift P v) → Fine P s.heap v → Answers (From g p R s) 40 (perform setting (Arith o) (Val.int m) v w s)
    unfolding operation_code perform
    arith-good {R = R} o m (Val.int n) w e h i integer =
        let y = split (require 4 6) _ (tail e) in
        step_then (do-is_kind (head e) (omega arith) i)
        (require-then P L C G s true refl (omega arith) y.left (has-written R 4 (truth true))
        (λ _. slack 37 (omega arith)
        (computed-then o m n _ refl y.right (has_other R 4 1 (truth true) (λ z. omega arith) h) (has_other R 4 2 (truth true) (λ z. omega arith) i))))
    arith-good {R = R} o m (Val.string t) w e h i text = wrong-kind e i refl
    arith-good {R = R} o m (Val.location l) w e h i (object z x) = wrong-kind e i refl
    arith-good o m (Val.identifier j) w e h i x = elim x [ ]

    -- two strings are joined
    joined-then : {g p q : ℕ} {R : Registers} (t u : List ℕ) (y : Outcome Effects) → charge (length (t ++ u)) s.effects ≡ y
        → Seg C g p (Instr.const 4 (Val.identifier (builtin_number own.Concat)) ∷ Instr.call 4 5 6 ∷ Instr.ret 5 ∷ []) q → Has R 5 (Val.string t) → Has R 6 (Val.string u)
        → Answers (From g p R s) 30 (effect y s >>= (λ _ s'. val (Val.string (t ++ u)) s'))
    unfolding apply
    joined-then {R = R} t u (Ok o) d e h i =
        let f₄ = Val.identifier (builtin_number own.Concat) in
        let R₁ = write R 4 f₄ in
        let x = Val.string (t ++ u) in
        let both = more (has_other R 4 5 f₄ (λ z. omega arith) h) (more (has_other R 4 6 f₄ (λ z. omega arith) i) none) in
        step_then (do-const (head e) (omega arith))
        (step_then (do-builtin (head (tail e)) (has-written R 4 f₄) both (omega arith) (own-found own.Concat) (rw d))
        (ret-then o x (head (tail (tail e))) (has-written R₁ 5 x) text))
    joined-then {R = R} t u (Err z) d e h i =
        let f₄ = Val.identifier (builtin_number own.Concat) in
        let both = more (has_other R 4 5 f₄ (λ z. omega arith) h) (more (has_other R 4 6 f₄ (λ z. omega arith) i) none) in
        step_then (do-const (head e) (omega arith))
        (ending (charge-legal (length (t ++ u)) s.effects z d) (end-builtin (head (tail e)) (has-written R 4 f₄) both (omega arith) (own-found own.Concat) (rw d)))

    concat-good : {g p q : ℕ} {R : Registers} (t : List ℕ) (v w : Val) → Seg C g p (operation_code Concat) q → Has R 1 (Val.string t) → Has R 2 (shift P v) → Fine P s.heap v → Answers (From g p R s) 40 (perform setting Concat (Val.string t) v w s)
    unfolding operation_code perform
    concat-good {R = R} t (Val.string u) w e h i text =
        let y = split (require 4 6) _ (tail e) in
        let R₁ = write R 4 (truth true) in
        let R₂ = write R₁ 5 (Val.string t) in
        let R₃ = write R₂ 6 (Val.string u) in
        let h₁ = has_other R 4 1 (truth true) (λ z. omega arith) h in
        let i₁ = has_other R 4 2 (truth true) (λ z. omega arith) i in
        let i₂ = has_other R₁ 5 2 (Val.string t) (λ z. omega arith) i₁ in
        let t₃ = has_other R₂ 6 5 (Val.string u) (λ z. omega arith) (has-written R₁ 5 (Val.string t)) in
        step_then (do-is_kind (head e) (omega arith) i)
        (require-then P L C G s true refl (omega arith) y.left (has-written R 4 (truth true))
        (λ _. step_then (do-mov (head y.right) (omega arith) h₁)
        (step_then (do-mov (head (tail y.right)) (omega arith) i₂)
        (slack 35 (omega arith) (joined-then t u _ refl (tail (tail y.right)) t₃ (has-written R₂ 6 (Val.string u)))))))
    concat-good t (Val.int n) w e h i integer = wrong-kind e i refl
    concat-good t (Val.location l) w e h i (object z x) = wrong-kind e i refl
    concat-good t (Val.identifier j) w e h i x = elim x [ ]

    -- an object's class, and of that the name, go into register 5
    class-name-then : {c g p q l : ℕ} {R : Registers} {x : Res Val} (z : ObjectAt P s.heap l) → Seg C g p class_name_into q → Has R 1 (Val.location (class_count P + l))
        → ((R' : Registers) → Has R' 5 (Val.string z.class) → Answers (From g q R' s) c x) → Answers (From g p R s) (suc (suc (suc (suc c)))) x
    class-name-then {l = l} {R = R} z e h x =
        let H = s.heap in
        let E = z.class in
        let n = z.is_known in
        let d = Val.location (place_in (class_names P) E) in
        let R₁ = write R 4 class_key in
        let R₂ = write R₁ 4 d in
        let R₃ = write R₂ 5 name_key in
        step_then (do-const (head e) (omega arith))
        (step_then (do-rd_tab (head (tail e)) (omega arith) (has_other R 4 1 class_key (λ y. omega arith) h) (object-table-here P H l z.is) (has-written R 4 class_key) (read-object-class P H l z.is))
        (step_then (do-const (head (tail (tail e))) (omega arith))
        (step_then (do-rd_tab (head (tail (tail (tail e)))) (omega arith) (has_other R₂ 5 4 name_key (λ y. omega arith) (has-written R₁ 4 d)) (class-here P H E n) (has-written R₂ 5 name_key) (read-class P H E name_key n ∙ read_name P E))
        (rw (last (tail (tail (tail e)))) (x _ (has-written R₃ 5 (Val.string E)))))))

    class_name-good : {g p q l : ℕ} {R : Registers} (v w : Val) → ObjectAt P s.heap l → Seg C g p (operation_code ClassName) q → Has R 1 (Val.location (class_count P + l)) → Answers (From g p R s) 40 (perform setting ClassName (Val.location l) v w s)
    unfolding operation_code perform
    class_name-good v w z e h =
        let y = split class_name_into _ e in
        rw z.is
        (class-name-then z y.left h (λ R' h'. ret-then s.effects (Val.string z.class) (head y.right) h' text))

    print_class_name-good : {g p q l : ℕ} {R : Registers} (v w : Val) → ObjectAt P s.heap l → Seg C g p (operation_code PrintClassName) q → Has R 1 (Val.location (class_count P + l)) → Answers (From g p R s) 40 (perform setting PrintClassName (Val.location l) v w s)
    unfolding operation_code perform
    print_class_name-good v w z e h =
        let y = split class_name_into _ e in
        rw z.is
        (class-name-then z y.left h (λ R' h'. slack 36 (omega arith) (print-then z.class (Val.string z.class) _ refl refl y.right h')))

    -- where a Map's contents are goes into register 4
    contents-then : {c g p q l : ℕ} {R : Registers} {x : Res Val} → MapAt P s.heap l → Seg C g p contents_into q → Has R 1 (Val.location (class_count P + l))
        → ((R' : Registers) → Except 4 R R' → Has R' 4 (Val.location (class_count P + suc l)) → Answers (From g q R' s) c x) → Answers (From g p R s) (suc (suc c)) x
    contents-then {l = l} {R = R} z e h x =
        let H = s.heap in
        let d = Val.location (class_count P + suc l) in
        step_then (do-const (head e) (omega arith))
        (step_then (do-rd_tab (head (tail e)) (omega arith) (has_other R 4 1 contents_key (λ y. omega arith) h) (object-table-here P H l z.is) (has-written R 4 contents_key) (read-contents P H l z.is))
        (rw (last (tail e)) (x _ (except-two R 4 contents_key d) (has-written (write R 4 contents_key) 4 d))))

    has-good : {g p q l : ℕ} {R : Registers} (v w : Val) → MapAt P s.heap l → Seg C g p (operation_code HasKey) q → Has R 1 (Val.location (class_count P + l)) → Has R 2 (shift P v) → Answers (From g p R s) 40 (perform setting HasKey (Val.location l) v w s)
    unfolding operation_code perform
    has-good {l = l} v w z e h i =
        let y = split contents_into _ e in
        let u = split (truth_into 5 5) _ (tail y.right) in
        let b = is_some (look v z.table) in
        rw z.contents
        (contents-then z y.left h
        (λ R' x h'. step_then (do-has_tab (head y.right) (omega arith) h' (cell-here P s.heap (suc l) z.behind) (has-except (λ n. omega arith) x i))
        (rw (read-key P s.heap (suc l) v z.behind z.contents, some_mapped (shift P) (look v z.table))
        (truth-then P L C G s b globals (omega arith) u.left (has-written R' 5 (truth b))
        (ret-then s.effects (heap.truth b) (head u.right) (has-written (write R' 5 (truth b)) 5 (shift P (heap.truth b))) (truth-fine P L C G globals b (nil-fine P L C G globals heap-sound.fine)))))))

    -- the value under a key, or the run ends
    found-then : {g p q l : ℕ} {R : Registers} (v : Val) (y : Option Val) (z : MapAt P s.heap l) → look v z.table ≡ y → Seg C g p (Instr.has_tab 5 4 2 ∷ (require 5 7 ++ (Instr.rd_tab 5 4 2 ∷ Instr.ret 5 ∷ []))) q
        → Has R 4 (Val.location (class_count P + suc l)) → Has R 2 (shift P v) → Answers (From g p R s) 38 (keyed y s)
    found-then {l = l} {R = R} v None z d e h i =
        let u = split (require 5 7) _ (tail e) in
        step_then (do-has_tab (head e) (omega arith) h (cell-here P s.heap (suc l) z.behind) i)
        (rw (read-key P s.heap (suc l) v z.behind z.contents, d)
        (require-then P L C G {x = val nil s} s false refl (omega arith) u.left (has-written R 5 (truth false)) (λ b. absurd (false≢true b))))
    found-then {l = l} {R = R} v (Some w) z d e h i =
        let u = split (require 5 7) _ (tail e) in
        let here = cell-here P s.heap (suc l) z.behind in
        let R₁ = write R 5 (truth true) in
        let is = read-key P s.heap (suc l) v z.behind z.contents ∙ ap (option_map (shift P)) d in
        let h₁ = has_other R 5 4 (truth true) (λ n. omega arith) h in
        let i₁ = has_other R 5 2 (truth true) (λ n. omega arith) i in
        step_then (do-has_tab (head e) (omega arith) h here i)
        (rw is
        (require-then P L C G s true refl (omega arith) u.left (has-written R 5 (truth true))
        (λ _. step_then (do-rd_tab (head u.right) (omega arith) h₁ here i₁ is)
        (ret-then s.effects w (head (tail u.right)) (has-written R₁ 5 (shift P w)) (key-fine P (suc l) v heap-sound.fine z.behind z.contents d)))))

    find-good : {g p q l : ℕ} {R : Registers} (v w : Val) → MapAt P s.heap l → Seg C g p (operation_code Find) q → Has R 1 (Val.location (class_count P + l)) → Has R 2 (shift P v) → Answers (From g p R s) 40 (perform setting Find (Val.location l) v w s)
    unfolding operation_code perform
    find-good v w z e h i =
        let y = split contents_into _ e in
        rw z.contents
        (contents-then z y.left h (λ R' x h'. found-then v _ z refl y.right h' (has-except (λ n. omega arith) x i)))

    -- a key is written where it finds room
    written_then : {g p q l : ℕ} {R : Registers} (v w : Val) (b : Bool) (z : MapAt P s.heap l) → fits setting s.heap 0 (new_pairs v (fields_of s.heap (suc l))) ≡ b → Fine P s.heap v → Fine P s.heap w
        → Seg C g p (Instr.wr_tab 4 2 3 ∷ nil_into 5 ∷ Instr.ret 5 ∷ []) q → Has R 4 (Val.location (class_count P + suc l)) → Has R 2 (shift P v) → Has R 3 (shift P w)
        → Answers (From g p R s) 38 (evaluation.unless NoTableSpace b s (val nil (with_heap (put_at s.heap (suc l) v w) s)))
    written_then {l = l} v w false z d fv fw e h i j =
        ending refl (end-wr_tab (head e) h (cell-here P s.heap (suc l) z.behind) i j (takes_key P L s.heap (suc l) v space z.behind z.contents ∙ d))
    written_then {l = l} {R = R} v w true z d fv fw e h i j =
        let H = s.heap in
        let sound = sound-key P (suc l) heap-sound z.behind z.contents fv fw in
        step_then (do-wr_tab (head e) h (cell-here P H (suc l) z.behind) i j (takes_key P L H (suc l) v space z.behind z.contents ∙ d))
        (rw (write-key P H (suc l) v w z.behind z.contents)
        (step_then (do-rd_glob (head (tail e)) (omega arith) globals.nils)
        (step_then (do-ret (head (tail (tail e))) (has-written R 5 (shift P nil)) refl call below)
        (done refl (record { is = refl; fine = nil-fine P L C G globals sound.fine; heap-fine = sound; grows = grows-put P H (suc l) v w; space = fits-after-put P L H (suc l) v w d; locals = refl })))))

    insert-good : {g p q l : ℕ} {R : Registers} (v w : Val) → MapAt P s.heap l → Fine P s.heap v → Fine P s.heap w → Seg C g p (operation_code Insert) q → Has R 1 (Val.location (class_count P + l)) → Has R 2 (shift P v) → Has R 3 (shift P w) → Answers (From g p R s) 40 (perform setting Insert (Val.location l) v w s)
    unfolding operation_code perform
    insert-good v w z fv fw e h i j =
        let y = split contents_into _ e in
        contents-then z y.left h
        (λ R' x h'. written_then v w _ z refl fv fw y.right h' (has-except (λ n. omega arith) x i) (has-except (λ n. omega arith) x j))

    -- each operation on a receiver that suits it
    pub performed : {g p q : ℕ} {R : Registers} {o : Operation} {r : Val} (vs : List Val) → Suits P s.heap o r → Fine P s.heap r → length vs ≡ operation_parameters o → Received s.heap R r vs → Seg C g p (operation_code o) q
        → Answers (From g p R s) 40 (perform setting o r (arg_at vs 0) (arg_at vs 1) s)
    performed vs equal f n a e = equal-good _ _ _ e a.receiver-in (a.argument-in 0 (omega arith))
    performed vs (class_name z) f n a e = class_name-good _ _ z e a.receiver-in
    performed vs (print_class_name z) f n a e = print_class_name-good _ _ z e a.receiver-in
    performed vs itself f n a e = itself-good _ _ _ e a.receiver-in f
    performed vs decimal f n a e = decimal-good _ _ _ e a.receiver-in
    performed vs print_integer f n a e = print_value-good _ _ _ _ refl refl e a.receiver-in
    performed vs print_string f n a e = print_value-good _ _ _ _ refl refl e a.receiver-in
    performed vs nil_text f n a e = nil_text-good _ _ _ e
    performed vs print_nil f n a e = print_nil-good _ _ _ e
    performed vs concat f n a e = concat-good _ _ _ e a.receiver-in (a.argument-in 0 (omega arith)) (a.argument-fine 0 (omega arith))
    performed vs its_length f n a e = length-good _ _ _ e a.receiver-in
    performed vs arithmetical f n a e = arith-good _ _ _ _ e a.receiver-in (a.argument-in 0 (omega arith)) (a.argument-fine 0 (omega arith))
    performed vs (find z) f n a e = find-good _ _ z e a.receiver-in (a.argument-in 0 (omega arith))
    performed vs (insert z) f n a e = insert-good _ _ z (a.argument-fine 0 (omega arith)) (a.argument-fine 1 (omega arith)) e a.receiver-in (a.argument-in 0 (omega arith)) (a.argument-in 1 (omega arith))
    performed vs (has z) f n a e = has-good _ _ z e a.receiver-in (a.argument-in 0 (omega arith))

  all-at : {H : Heap} (vs : List Val) → AllByRecursion (Fine P H) vs → (i : ℕ) → i < length vs → Fine P H (arg_at vs i)
  all-at [] a i l = absurd (omega arith)
  all-at (v ∷ vs) a zero l = a.0
  all-at (v ∷ vs) a (suc i) l = all-at vs a.1 i (omega arith)

  nth-shift : (vs : List Val) (i : ℕ) → i < length vs → slice_get (map (shift P) vs) i ≡ Some (shift P (arg_at vs i))
  nth-shift [] i l = absurd (omega arith)
  nth-shift (v ∷ vs) zero l = refl
  nth-shift (v ∷ vs) (suc i) l = nth-shift vs i (omega arith)

  -- what is passed is what is found, but for a register above the arguments
  received : {H : Heap} {R : Registers} (w r : Val) (vs : List Val) → length vs ≤ 2 → AllByRecursion (Fine P H) vs → Except 4 (passed (w ∷ shift P r ∷ map (shift P) vs)) R → Received H R r vs
  received w r vs n a x =
      let ws = w ∷ shift P r ∷ map (shift P) vs in
      record {
        receiver-in = has-except (λ z. omega arith) x (record { is = passed_reads ws 1 });
        argument-in = λ i l. has-except (λ z. omega arith) x (record { is = passed_reads ws (2 + i) ∙ rw (two-more i) (nth-shift vs i l) });
        argument-fine = λ i l. all-at vs a i l;
      }

  few-parameters : (o : Operation) → operation_parameters o ≤ 2
  few-parameters Equal = omega arith
  few-parameters ClassName = omega arith
  few-parameters PrintClassName = omega arith
  few-parameters Itself = omega arith
  few-parameters Decimal = omega arith
  few-parameters PrintValue = omega arith
  few-parameters NilText = omega arith
  few-parameters PrintNil = omega arith
  few-parameters Concat = omega arith
  few-parameters Length = omega arith
  few-parameters (Arith o) = omega arith
  few-parameters Find = omega arith
  few-parameters Insert = omega arith
  few-parameters HasKey = omega arith

  back-counted : {R R' : Registers} {t : ℕ} {s s' : State} {v : Val} → Back P L R t (evaluation.count s) v s' R' → Back P L R t s v s' R'
  back-counted b = record { is = b.is; fine = b.fine; heap-fine = b.heap-fine; grows = b.grows; space = b.space; locals = b.locals }

  -- a built-in operation's function, entered by a call, tests the number of arguments, performs the operation and answers
  pub operation-good : {k f pc a t final q : ℕ} {S : List Frame} {R : Registers} (s : State) (r : Val) (vs : List Val) (o : Operation)
      → Seg C (operation_function o) 0 (operation_function_code o) q → Fetch C f pc (Instr.call a t final) → t < registers_per_frame
      → Suits P s.heap o r → Fine P s.heap r → AllByRecursion (Fine P s.heap) vs → Sound P s.heap → fits setting s.heap 0 0 ≡ true
      → Sim P C L G k (at (operation_function o) 0 (passed (number (length vs) ∷ shift P r ∷ map (shift P) vs)) (frame f pc R ∷ S) (world P G s)) 20 s.counted f (suc pc) S (Back P L R t s)
      (evaluation.unless WrongArgumentCount (eqb (length vs) (operation_parameters o)) s (perform setting o r (arg_at vs 0) (arg_at vs 1) (evaluation.count s)))
  operation-good {k = k} {S = S} {R = R} s r vs o e call below u w ws sound space =
      let y = split (count_test 4 (operation_parameters o)) _ e in
      count-test P L C G s (omega arith) (λ z. omega arith) (record { is = passed_reads (number (length vs) ∷ shift P r ∷ map (shift P) vs) 0 }) y.left
      (λ n R₁ x. count-then (slack 128 (omega arith)
      (weaken (λ v s' R' φ. back-counted φ)
      (performed k R S call below (evaluation.count s) sound space vs u w n (received (number (length vs)) r vs (omega (arith, few-parameters o)) ws x) y.right))))

  -- a built-in method that a class finds can be called
  pub built_in-callable : (k : ℕ) (again : Eval A) → Accepted P → Few P → ((o : Operation) → (q : ℕ) × Seg C (operation_function o) 0 (operation_function_code o) q)
      → (D x : List ℕ) (n : ℕ) (o : Operation) → lookup P D x ≡ Some (Callee.built_in n o) → Callable P L C G globals k again (Callee.built_in n o)
  built_in-callable k again accepted few loaded D x n o h = record {
    function = found-function P D x (Callee.built_in n o) few h;
    sim = λ s r vs y d call below frames found w ws sound space.
        let b = found-built_in P (class_of s.heap r) y n o accepted found in
        rw b.0 (operation-good s r vs o (loaded o).1 call below (suited-suits P o sound w b.1) w ws sound space);
  }
