-- What the arguments of a command meet where nothing is refused of them.
use Rattle.std.proofs.Common.{◌≡◌, ◌≤◌, ◌-◌, Bool, true, false, ◌&&◌, List, [], ◌∷◌, length, take, drop, get_or, refl, ap, ◌∙◌, sym, subst, cond, arith}
use Rattle.std.proofs.lemmas.List.{take_all}
use Rattle.std.specs.Prelude.{Option, None, Some, is_some, not, option_map}
use Rattle.std.specs.Option.{option_or}
use Rattle.std.specs.Bool.{MatchBool, OnTrue}
use Rattle.leda_base.specs.declared.ItemName.{ItemName}
use Rattle.leda_base.specs.declared.ItemName.TheVariants as items
use Rattle.graph_state.specs.State.{GraphState}
use Rattle.graph_state.specs.Refusals.{IsThere, AreVisible}
use Rattle.script_text.specs.declared.argument.Arg.{Arg}
use Rattle.script_text.specs.declared.argument.Arg.TheVariants as args
use Rattle.script_text.specs.declared.form.Form.{Form}
use Rattle.script_text.specs.declared.form.Form.TheVariants as forms
use Rattle.script_text.specs.declared.word.Word.{Word}
use Rattle.script_text.specs.Said.{Said}
use Rattle.script_text.specs.Table.{forms_of, IsWhole}
use Rattle.reply_text.specs.declared.refusal.Refusal.{Refusal}
use Rattle.reply_text.specs.declared.refusal.Refusal.TheVariants as refusals
use Rattle.object_store.specs.Met as objects
use Rattle.object_store.specs.Served.{AreLive}
use Rattle.console_state.specs.declared.order.Rule.{Rule}
use Rattle.console_state.specs.declared.order.Rule.TheVariants as rules
use Rattle.console_state.specs.declared.order.Standing.{Standing}
use Rattle.console_state.specs.declared.order.Standing.TheVariants.{Unknown, Dead, Hidden, Visible}
use Rattle.console_state.specs.State.{State}
use Rattle.console_state.specs.Views.{standing}
use Rattle.console_state.specs.Order.{gone, hidden, asks_visible, asks_directed, refusal_by, leftmost, wrong_kind, first_of, refusal_among}
use Rattle.console_state.proofs.Visible.{stands_in}
use Rattle.console_state.specs.Clear.{IsLive, IsMet, AreMet, IsOfKind, IsClear, AreClear}

-- the first of six, each of which is changed
pub first_of-six : {A B : Type 0} (f : A → B) (a b c d e g : Option A)
    → option_map f (option_or (option_or (option_or (option_or (option_or a b) c) d) e) g)
    ≡ first_of (option_map f a ∷ option_map f b ∷ option_map f c
    ∷ option_map f d ∷ option_map f e ∷ option_map f g ∷ [])
first_of-six f (Some x) b c d e g = refl
first_of-six f None (Some x) c d e g = refl
first_of-six f None None (Some x) d e g = refl
first_of-six f None None None (Some x) e g = refl
first_of-six f None None None None (Some x) g = refl
first_of-six f None None None None None (Some x) = refl
first_of-six f None None None None None None = refl

-- neither is there
or-none : {A : Type 0} (a b : Option A) → option_or a b ≡ None → (a ≡ None) × (b ≡ None)
or-none None b h = (refl, h)
or-none (Some x) b h = cc

-- an item that is neither gone nor hidden where that counts
stands : (test : Bool) (at : Standing) (x : ItemName) → gone at x ≡ None
    → cond test (hidden at x) None ≡ None → MatchBool test (at ≡ Visible) (IsLive at)
stands test Unknown x g h = cc
stands test Dead x g h = cc
stands true Hidden x g h = cc
stands false Hidden x g h = tt
stands true Visible x g h = refl
stands false Visible x g h = tt

-- an argument of which neither rule refuses anything
met : (s : State) (form : Form) (arg : Arg) (later : List Arg)
    → refusal_by s rules.Gone form arg later ≡ None
    → refusal_by s rules.Hidden form arg later ≡ None
    → IsMet s.graph form arg
met s form (args.Node v) later g h = stands_in s form (items.Node v) tt
    (stands (asks_visible form) (standing s (items.Node v)) (items.Node v) g h)
met s form (args.Edge e) later g h = stands_in s form (items.Edge e) tt
    (stands (asks_visible form) (standing s (items.Edge e)) (items.Edge e) g h)
met s form (args.Cell i) later g h = tt
met s form (args.Name name) later g h = tt
met s form (args.Num number) later g h = tt
met s form (args.Label label) later g h = tt
met s form args.Labels later g h = tt
met s form (args.File file) later g h = tt
met s form (args.Mode mode) later g h = tt
met s form (args.Kept sort) later g h = tt

-- arguments of which neither rule refuses anything
all-met : (s : State) (forms : List Form) (args : List Arg)
    → leftmost s rules.Gone forms args ≡ None → leftmost s rules.Hidden forms args ≡ None
    → AreMet s.graph forms args
all-met s [] [] g h = tt
all-met s [] (arg ∷ later) g h = tt
all-met s (form ∷ forms) [] g h = tt
all-met s (form ∷ forms) (arg ∷ later) g h =
    let gone = or-none _ _ g in
    let hidden = or-none _ _ h in
    (met s form arg later gone.0 hidden.0, all-met s forms later gone.1 hidden.1)

-- nothing stands in the way of the command, whose forms and arguments were read, and the arguments
-- once more
pub cleared : (s : State) (read : Word) (forms : List Form) (args : List Arg) (word : Word)
    (said : Said) (again : List Arg) → None ≡ refusal_among s read forms args
    → forms ≡ forms_of said.word → args ≡ said.args → word ≡ said.word → again ≡ said.args
    → AreMet s.graph (forms_of word) again
cleared s read forms args word said again h f a w b =
    let one = or-none _ _ (sym h) in
    let two = or-none _ _ one.1 in
    let three = or-none _ _ two.1 in
    let four = or-none _ _ three.1 in
    let met = all-met s forms args two.0 four.0 in
    subst (λ all. AreMet s.graph (forms_of word) all) (a ∙ sym b)
    (subst (λ forms. AreMet s.graph forms args) (f ∙ ap forms_of (sym w)) met)

-- a test that stands in the way of nothing
found : (test : Bool) (refusal : Refusal) → cond test None (Some refusal) ≡ None → test ≡ true
found true refusal h = refl
found false refusal h = cc

untaken : (test : Bool) (refusal : Refusal) → cond test (Some refusal) None ≡ None → test ≡ false
untaken true refusal h = cc
untaken false refusal h = refl

-- an argument of which none of three rules refuses anything
object-met : (s : State) (form : Form) (arg : Arg) (later : List Arg)
    → refusal_by s rules.Absent form arg later ≡ None
    → refusal_by s rules.Stray form arg later ≡ None
    → refusal_by s rules.Taken form arg later ≡ None
    → objects.IsMet s.objects form arg later
object-met s (forms.Object kinds) (args.Node v) later a g t = tt
object-met s (forms.Object kinds) (args.Edge e) later a g t = tt
object-met s (forms.Object kinds) (args.Cell i) later a g t = tt
object-met s (forms.Object kinds) (args.Name name) later a g t = found _ _ a
object-met s (forms.Object kinds) (args.Num number) later a g t = tt
object-met s (forms.Object kinds) (args.Label label) later a g t = tt
object-met s (forms.Object kinds) args.Labels later a g t = tt
object-met s (forms.Object kinds) (args.File file) later a g t = tt
object-met s (forms.Object kinds) (args.Mode mode) later a g t = tt
object-met s (forms.Object kinds) (args.Kept sort) later a g t = tt
object-met s (forms.Cell kinds) (args.Node v) later a g t = tt
object-met s (forms.Cell kinds) (args.Edge e) later a g t = tt
object-met s (forms.Cell kinds) (args.Cell i) later a g t = found _ _ g
object-met s (forms.Cell kinds) (args.Name name) later a g t = tt
object-met s (forms.Cell kinds) (args.Num number) later a g t = tt
object-met s (forms.Cell kinds) (args.Label label) later a g t = tt
object-met s (forms.Cell kinds) args.Labels later a g t = tt
object-met s (forms.Cell kinds) (args.File file) later a g t = tt
object-met s (forms.Cell kinds) (args.Mode mode) later a g t = tt
object-met s (forms.Cell kinds) (args.Kept sort) later a g t = tt
object-met s forms.NewName (args.Node v) later a g t = tt
object-met s forms.NewName (args.Edge e) later a g t = tt
object-met s forms.NewName (args.Cell i) later a g t = tt
object-met s forms.NewName (args.Name name) later a g t = untaken _ _ t
object-met s forms.NewName (args.Num number) later a g t = tt
object-met s forms.NewName (args.Label label) later a g t = tt
object-met s forms.NewName args.Labels later a g t = tt
object-met s forms.NewName (args.File file) later a g t = tt
object-met s forms.NewName (args.Mode mode) later a g t = tt
object-met s forms.NewName (args.Kept sort) later a g t = tt
object-met s (forms.Node sight) arg later a g t = tt
object-met s (forms.Edge sight) arg later a g t = tt
object-met s (forms.Element sight) arg later a g t = tt
object-met s forms.Num arg later a g t = tt
object-met s forms.NumOrLabels arg later a g t = tt
object-met s forms.Label arg later a g t = tt
object-met s forms.OptionalLabel arg later a g t = tt
object-met s forms.File arg later a g t = tt
object-met s forms.Mode arg later a g t = tt
object-met s forms.Kept arg later a g t = tt

-- arguments of which none of them refuses anything
all-objects-met : (s : State) (forms : List Form) (args : List Arg)
    → leftmost s rules.Absent forms args ≡ None → leftmost s rules.Stray forms args ≡ None
    → leftmost s rules.Taken forms args ≡ None → objects.AreMet s.objects forms args
all-objects-met s [] [] a g t = tt
all-objects-met s [] (arg ∷ later) a g t = tt
all-objects-met s (form ∷ forms) [] a g t = tt
all-objects-met s (form ∷ forms) (arg ∷ later) a g t =
    let absent = or-none _ _ a in
    let stray = or-none _ _ g in
    let taken = or-none _ _ t in (
      object-met s form arg later absent.0 stray.0 taken.0,
      all-objects-met s forms later absent.1 stray.1 taken.1,
    )

-- nothing stands in the way of a command on objects
pub objects-cleared : (s : State) (read : Word) (forms : List Form) (args : List Arg) (word : Word)
    (said : Said) (again : List Arg) → None ≡ refusal_among s read forms args
    → forms ≡ forms_of said.word → args ≡ said.args → word ≡ said.word → again ≡ said.args
    → objects.AreMet s.objects (forms_of word) again
objects-cleared s read forms args word said again h f a w b =
    let one = or-none _ _ (sym h) in
    let two = or-none _ _ one.1 in
    let three = or-none _ _ two.1 in
    let four = or-none _ _ three.1 in
    let five = or-none _ _ four.1 in
    let six = or-none _ _ five.1 in
    let met = all-objects-met s forms args one.0 three.0 six.0 in
    subst (λ all. objects.AreMet s.objects (forms_of word) all) (a ∙ sym b)
    (subst (λ forms. objects.AreMet s.objects forms args) (f ∙ ap forms_of (sym w)) met)

-- what is met as visible is there
is-there : (g : GraphState) (test : Bool) (x : ItemName)
    → MatchBool test (AreVisible g (x ∷ [])) (IsThere g x) → IsThere g x
is-there g true x h = h.0
is-there g false x h = h

-- arguments as many as the forms, each of which is met, are live
all-live : (g : GraphState) (forms : List Form) (args : List Arg) → length args ≡ length forms
    → AreMet g forms args → AreLive g args
all-live g [] [] few h = tt
all-live g [] (arg ∷ later) few h = absurd (omega (arith, few))
all-live g (form ∷ forms) [] few h = tt
all-live g (form ∷ forms) (args.Node v ∷ later) few h = (
  is-there g (asks_visible form) (items.Node v) h.0,
  all-live g forms later (omega (arith, few)) h.1,
)
all-live g (form ∷ forms) (args.Edge e ∷ later) few h = (
  is-there g (asks_visible form) (items.Edge e) h.0,
  all-live g forms later (omega (arith, few)) h.1,
)
all-live g (form ∷ forms) (args.Cell i ∷ later) few h = all-live g forms later (omega (arith, few)) h.1
all-live g (form ∷ forms) (args.Name name ∷ later) few h =
    all-live g forms later (omega (arith, few)) h.1
all-live g (form ∷ forms) (args.Num number ∷ later) few h =
    all-live g forms later (omega (arith, few)) h.1
all-live g (form ∷ forms) (args.Label label ∷ later) few h =
    all-live g forms later (omega (arith, few)) h.1
all-live g (form ∷ forms) (args.Labels ∷ later) few h = all-live g forms later (omega (arith, few)) h.1
all-live g (form ∷ forms) (args.File file ∷ later) few h =
    all-live g forms later (omega (arith, few)) h.1
all-live g (form ∷ forms) (args.Mode mode ∷ later) few h =
    all-live g forms later (omega (arith, few)) h.1
all-live g (form ∷ forms) (args.Kept sort ∷ later) few h =
    all-live g forms later (omega (arith, few)) h.1

-- nothing stands in the way of the command, which is whole: what it names is live
pub live-cleared : (s : State) (read : Word) (forms : List Form) (args : List Arg) (word : Word)
    (said : Said) (again : List Arg) → None ≡ refusal_among s read forms args
    → forms ≡ forms_of said.word → args ≡ said.args → word ≡ said.word → again ≡ said.args
    → IsWhole said → AreLive s.graph again
live-cleared s read forms args word said again h f a w b whole =
    all-live s.graph (forms_of word) again
    (ap length b ∙ whole.count ∙ ap (λ w. length (forms_of w)) (sym w))
    (cleared s read forms args word said again h f a w b)

-- where the kind isn't wrong, it is the one asked for
kind-is : (asked directed : Bool) → cond (asked && not directed) (Some refusals.Undirected) None ≡ None
    → OnTrue asked (directed ≡ true)
kind-is true true h = refl
kind-is true false h = cc
kind-is false directed h = tt

fifth-none : {A : Type 0} (a b c d e g : Option A)
    → first_of (a ∷ b ∷ c ∷ d ∷ e ∷ g ∷ []) ≡ None → e ≡ None
fifth-none None None None None e g h = (or-none e (option_or g None) h).0
fifth-none None None None (Some x) e g h = cc
fifth-none None None (Some x) d e g h = cc
fifth-none None (Some x) c d e g h = cc
fifth-none (Some x) b c d e g h = cc

-- nothing stands in the way of the command
pub kind-met : (s : State) (read : Word) (forms : List Form) (args : List Arg) (word : Word)
    (said : Said) → None ≡ refusal_among s read forms args → read ≡ said.word → word ≡ said.word
    → IsOfKind s.graph word
kind-met s read forms args word said h r w =
    let first = λ (rule : Rule). leftmost s rule forms args in
    let kind = fifth-none (first rules.Absent) (first rules.Gone) (first rules.Stray)
    (first rules.Hidden) (wrong_kind s read) (first rules.Taken) (sym h) in
    subst (IsOfKind s.graph) (r ∙ sym w) (kind-is (asks_directed read) s.graph.directed kind)

-- arguments of which no rule refuses anything
pub all-clear : (s : State) (rule : Rule) (forms : List Form) (args : List Arg)
    → AreClear s forms args → leftmost s rule forms args ≡ None
all-clear s rule [] [] clear = refl
all-clear s rule [] (arg ∷ later) clear = refl
all-clear s rule (form ∷ forms) [] clear = refl
all-clear s rule (form ∷ forms) (arg ∷ later) clear =
    ap (λ one. option_or one (leftmost s rule forms later)) (clear.0 rule)
    ∙ all-clear s rule forms later clear.1

-- none of six
none_of-six : {A : Type 0} (a b c d e g : Option A)
    → a ≡ None → b ≡ None → c ≡ None → d ≡ None → e ≡ None → g ≡ None
    → first_of (a ∷ b ∷ c ∷ d ∷ e ∷ g ∷ []) ≡ None
none_of-six a b c d e g h i j k l m = rw (h, i, j, k, l, m) refl

-- nor of the command
pub free : (s : State) (word : Word) (forms : List Form) (args : List Arg)
    → wrong_kind s word ≡ None → AreClear s forms args → refusal_among s word forms args ≡ None
free s word forms args kind clear =
    none_of-six _ _ _ _ _ _ (all-clear s rules.Absent forms args clear)
    (all-clear s rules.Gone forms args clear)
    (all-clear s rules.Stray forms args clear) (all-clear s rules.Hidden forms args clear) kind
    (all-clear s rules.Taken forms args clear)

-- one argument more, in front of the others
pub clear-more : (s : State) (forms : List Form) (args : List Arg) (form : Form) (arg : Arg)
    → 1 ≤ length forms → 1 ≤ length args → arg ≡ get_or args 0 arg
    → IsClear s (get_or forms 0 form) arg (take (length args - 1) (drop 1 args))
    → AreClear s (take (length forms - 1) (drop 1 forms)) (take (length args - 1) (drop 1 args))
    → AreClear s forms args
clear-more s [] args form arg f a is one others = absurd (omega (arith, f))
clear-more s (x ∷ xs) [] form arg f a is one others = absurd (omega (arith, a))
clear-more s (x ∷ xs) (y ∷ ys) form arg f a is one others =
    let fs : take (length (x ∷ xs) - 1) xs ≡ xs = take_all (length (x ∷ xs) - 1) xs (omega arith) in
    let same : take (length (y ∷ ys) - 1) ys ≡ ys = take_all (length (y ∷ ys) - 1) ys (omega arith) in (
      subst (IsClear s x y) same
          (subst (λ y. IsClear s x y (take (length (y ∷ ys) - 1) ys)) is one),
      subst (λ ys. AreClear s xs ys) same
          (subst (λ xs. AreClear s xs (take (length (y ∷ ys) - 1) ys)) fs others),
    )

-- nothing is asked of no arguments
pub clear-none : (s : State) (forms : List Form) (args : List Arg)
    → (1 ≤ length forms → 1 ≤ length args → ⊥) → AreClear s forms args
clear-none s [] args none = tt
clear-none s (x ∷ xs) [] none = tt
clear-none s (x ∷ xs) (y ∷ ys) none = absurd (none (omega arith) (omega arith))

-- there is none
pub none-there : {A : Type 0} (found : Option A) (none : Bool) → is_some found ≡ not none
    → none ≡ true → found ≡ None
none-there None none is e = refl
none-there (Some x) none is e = cc
