-- What is refused of a weight list for rows.
use Rattle.std.specs.Prelude.{ℕ, zero, suc, Bool, true, false, cond, ◌&&◌, List, length, ℤ, pos, negsuc, neg_ℤ, Some, None, Option, ◌==◌, int_le, slice_index_or}
use Rattle.std.specs.Option.{option_or}
use Rattle.numbers.specs.Division.{is_zero}
use Rattle.model.specs.declared.draft.RowDraft.{RowDraft}
use Rattle.model.specs.Firsts.{every, first_below}
use Rattle.model.specs.Rows.{Row}
use Rattle.model.specs.Drafts.{blank, drafted}
use Rattle.narrower.specs.declared.faults.ProposalFault.{ProposalFault}
use Rattle.narrower.specs.declared.faults.ProposalFault.TheVariants.{WeightCount, Weights, AllZero, AbsentEnd}

-- WEIGHT_LIMIT: how far from 0 a weight may be
abbrev pub weight_limit : ℕ
weight_limit = 64

-- a test: the weight is within 64 of 0
abbrev pub weight_fits : ℤ → Bool
weight_fits w = int_le (neg_ℤ (pos weight_limit)) w && int_le w (pos weight_limit)

-- the place of the first weight beyond its limit
abbrev pub heavy_at : List ℤ → Option ℕ
heavy_at ws = first_below (length ws) (λ k. weight_fits (slice_index_or ws k (pos 0)))

-- every weight is 0, as in an empty list
abbrev pub all_zero : List ℤ → Bool
all_zero ws = every (length ws) (λ k. is_zero (slice_index_or ws k (pos 0)))

-- a weight beyond its limit is refused at its place
abbrev pub weights_at : Option ℕ → Option ProposalFault
weights_at None = None
weights_at (Some k) = Some (Weights k)

-- refusal 15 for m rows: of a list of another length, then of the first weight beyond its limit, then where all are 0
abbrev pub weights_refusal : ℕ → List ℤ → Option ProposalFault
weights_refusal m ws = cond (length ws == m) (option_or (weights_at (heavy_at ws)) (cond (all_zero ws) (Some AllZero) None)) (Some WeightCount)

-- an end is present
abbrev pub present : Option ℤ → Bool
present None = false
present (Some a) = true

-- a test: the row has the end that the weight needs, the high one for a positive weight and the low one for a negative
abbrev pub has_end : ℤ → Row → Bool
has_end (pos zero) r = true
has_end (pos (suc w)) r = present r.high
has_end (negsuc w) r = present r.low

-- the place of refusal 16: the first weight that needs an absent end
abbrev pub absent_at : List ℤ → List RowDraft → Option ℕ
absent_at ws ds = first_below (length ws) (λ k. has_end (slice_index_or ws k (pos 0)) (drafted (slice_index_or ds k (blank 0))))

-- refusal 16 at a place, if there is one
abbrev pub end_at : Option ℕ → Option ProposalFault
end_at None = None
end_at (Some k) = Some (AbsentEnd k)

-- what is refused of the weights: 15, then 16
abbrev pub weigh_refusal : List ℤ → List RowDraft → Option ProposalFault
weigh_refusal ws ds = option_or (weights_refusal (length ds) ws) (end_at (absent_at ws ds))
