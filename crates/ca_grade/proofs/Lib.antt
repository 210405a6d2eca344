mod GradeLemmas
