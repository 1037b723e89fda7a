-- Lemmas on rounding.
mod ByQuotient
