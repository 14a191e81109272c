pub mod ManyMitigants
