-- The numbers that are skipped, from what the calls on their filter say.
use Rattle.std.proofs.Common.{◌≡◌, ℕ, ◌+◌, Bool, true, false, not, ◌==◌, if◌then◌else◌, refl, ap, ◌∙◌, arith}
use Rattle.std.proofs.lemmas.Bool.Decides.{nat_tests}
use Rattle.rand_core.specs.Stream.{Stream, next_u64}
use Rattle.qc_base.specs.declared.side.SpaceId.TheVariants.{«Data»}
use Rattle.qc_path.specs.Filter.{Skips, number_used, numbered}
use Rattle.qc_state.specs.Draws.{behind}
use Rattle.qc_state.specs.Numbers.{coming_number, is_skipped, next_number, number_skipped, used_in}
use Rattle.qc_state.specs.declared.numbers.Numbers.{Numbers}

-- a number is skipped where the filter gives another one
other_by : (next skipped : ℕ) (b : Bool) → (next == skipped) ≡ b → not ((if b then next + 1 else next) == next) ≡ (next == skipped)
other_by next skipped true e = grind (arith, nat_tests)
other_by next skipped false e = grind (arith, nat_tests)

pub skipped_told : (v : Numbers) (number : ℕ) → number ≡ number_used v.spaces.application.next v.filter → not (number == v.spaces.application.next) ≡ is_skipped v Data
unfolding number_used is_skipped next_number
skipped_told v number is = ap (λ (n : ℕ). not (n == v.spaces.application.next)) is ∙ other_by v.spaces.application.next v.filter.skipped (v.spaces.application.next == v.filter.skipped) refl

-- the number that it gives is the one that comes
pub coming_told : (v : Numbers) (number : ℕ) → number ≡ number_used v.spaces.application.next v.filter → number ≡ coming_number v Data
unfolding number_used coming_number is_skipped next_number
coming_told v number is = is

-- a number is skipped
one_more : (next : ℕ) (b : Bool) → b ≡ true → (if b then next + 1 else next) ≡ next + 1
one_more next true e = refl
one_more next false e = cc

pub skip_told : (v : Numbers) (number drawn : ℕ) (filter : Skips) → is_skipped v Data ≡ true → number ≡ number_used v.spaces.application.next v.filter → filter ≡ numbered v.spaces.application.next drawn v.filter →
    record { spaces = record v.spaces { application = record v.spaces.application { next = number } }; filter = filter; opened = v.opened } ≡ number_skipped v drawn
unfolding number_used is_skipped next_number number_skipped used_in
skip_told v number drawn filter e is_number is_filter =
    ap (λ (n : ℕ). record { spaces = record v.spaces { application = record v.spaces.application { next = n } }; filter = filter; opened = v.opened }) (is_number ∙ one_more v.spaces.application.next (v.spaces.application.next == v.filter.skipped) e)
    ∙ ap (λ (x : Skips). record { spaces = record v.spaces { application = record v.spaces.application { next = v.spaces.application.next + 1 } }; filter = x; opened = v.opened }) is_filter

-- a word was drawn for it
drawn_by : (s : Stream) (b : Bool) → b ≡ true → (if b then (next_u64 s).1 else s) ≡ behind s
drawn_by s true e = refl
drawn_by s false e = cc

pub drawn_told : (v : Numbers) (s left : Stream) → is_skipped v Data ≡ true → left ≡ (if v.spaces.application.next == v.filter.skipped then (next_u64 s).1 else s) → left ≡ behind s
unfolding is_skipped next_number
drawn_told v s left e is = is ∙ drawn_by s (v.spaces.application.next == v.filter.skipped) e
